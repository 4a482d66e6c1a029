-- The words for how functions are called.
use Rattle.std.specs.Prelude.{ℕ, List, Option, None, Some, codes}
use Rattle.facet_desc.specs.declared.function.FunctionAbi.{FunctionAbi}
use Rattle.facet_desc.specs.declared.function.FunctionAbi.TheVariants as abi

-- the word for how a function is called
abbrev pub abi_text : FunctionAbi → Option (List ℕ)
abi_text abi.C = Some (codes "C")
abi_text abi.Rust = Some (codes "Rust")
abi_text abi.Unknown = None
