-- What a sink holds of a text that was written to it.
use Rattle.std.specs.Prelude.{ℕ, ◌<◌, List, length, Option}
use Rattle.std.specs.Io.KnownBytes.{Appends, Keeps}
use Rattle.facet_base.specs.Write.{IsPrefix}
use Rattle.facet_script.specs.declared.output.OutputError.{OutputError}
use Rattle.facet_script.specs.declared.output.OutputError.TheVariants.{Failed, Memory}
use Rattle.facet_script.specs.declared.report.Status.{Status}
use Rattle.facet_script.specs.declared.report.Status.TheVariants.{WriteFault, NoMemory}

-- a beginning that isn't the whole
abbrev pub IsProperPrefix : List ℕ → List ℕ → Type 0
IsProperPrefix front whole = IsPrefix front whole × (length front < length whole)

-- some bytes with this property were appended, where the bytes are known
abbrev pub AppendsSome : Option (List ℕ) → Option (List ℕ) → (List ℕ → Type 0) → Type 0
AppendsSome before now P = (bytes : List ℕ) × Appends before now bytes × P bytes

-- a failed write leaves a proper prefix of the text, and an allocation failure nothing of it
abbrev pub AppendsPart : OutputError → Option (List ℕ) → Option (List ℕ) → List ℕ → Type 0
AppendsPart Failed before now text = AppendsSome before now (λ bytes. IsProperPrefix bytes text)
AppendsPart Memory before now text = Keeps before now

-- how a run ends after such an error
abbrev pub status_of : OutputError → Status
status_of Failed = WriteFault
status_of Memory = NoMemory
