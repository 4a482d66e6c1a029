-- Texts without a newline.
use Rattle.std.specs.Prelude.{◌≢◌, ℕ, List, All}
use Rattle.facet_leaf.specs.LeafModel.{LeafModel}

-- no byte of the text is a newline
abbrev pub IsOneLine : List ℕ → Type 0
IsOneLine text = All (λ b. b ≢ 10) text

-- the debug text of every leaf is one line
abbrev pub HasOneLineDebug : {L : Type 0} → LeafModel L → Type 0
HasOneLineDebug {L} m = (x : L) → IsOneLine (m.debug x)
