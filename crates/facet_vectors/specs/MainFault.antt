-- Why the program did not end well, and the exit status that it ends with.
use Rattle.std.specs.Prelude.{ℕ, Option, None, Some}
use Rattle.facet_script.specs.declared.report.Status.{Status}
use Rattle.facet_script.specs.declared.report.Status.TheVariants as status
use Rattle.facet_vectors.specs.declared.fault.MainFault.{MainFault}
use Rattle.facet_vectors.specs.declared.fault.MainFault.TheVariants.{Usage, ReadFault, WriteFault, TooLong, NoMemory}

-- the exit status, by the fault
abbrev pub exit_status : MainFault → ℕ
exit_status Usage = 2
exit_status ReadFault = 3
exit_status WriteFault = 4
exit_status TooLong = 5
exit_status NoMemory = 6

-- the fault that a status is, if it is one
abbrev pub fault_of : Status → Option MainFault
fault_of status.Ok = None
fault_of status.Usage = Some Usage
fault_of status.ReadFault = Some ReadFault
fault_of status.WriteFault = Some WriteFault
fault_of status.TooLong = Some TooLong
fault_of status.NoMemory = Some NoMemory
