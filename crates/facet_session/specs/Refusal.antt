-- The refusals that commands share: their words, and when they come.
use Rattle.std.specs.Prelude.{ℕ, Bool, List, [], ◌∷◌, length, Option, None, Some, if◌then◌else◌, codes, bytes_eq, nat_le}
use Rattle.std.specs.List.{list_any}
use Rattle.facet_shape.specs.declared.shape.Shape.{Shape}
use Rattle.facet_session.specs.State.{State}
use Rattle.facet_session.specs.declared.refusal.Refusal.{Refusal}
use Rattle.facet_session.specs.declared.refusal.Refusal.TheVariants.{Syntax, NoSuchShape, Taken, WrongShape, BadText, Unsupported, MissingDeclId}

-- the words of the answer
abbrev pub words_of : Refusal → List ℕ
words_of Syntax = codes "syntax"
words_of NoSuchShape = codes "no such shape"
words_of Taken = codes "taken"
words_of WrongShape = codes "wrong shape"
words_of BadText = codes "bad text"
words_of Unsupported = codes "unsupported"
words_of MissingDeclId = codes "refused MissingDeclId"

-- the refusal of the first condition that holds, if one does
abbrev pub first_refusal : List (Bool × Refusal) → Option Refusal
first_refusal [] = None
first_refusal (first ∷ rest) = if first.0 then Some first.1 else first_refusal rest

-- no sealed shape has the id
abbrev pub is_unsealed : List Shape → ℕ → Bool
is_unsealed shapes s = nat_le (length shapes) s

-- an entry has the name
abbrev pub is_taken : {L : Type 0} → State L → List ℕ → Bool
is_taken state name = list_any (λ entry. bytes_eq entry.name name) state.entries
