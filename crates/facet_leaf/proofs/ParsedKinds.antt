-- The kind of a leaf that was parsed.
use Rattle.std.proofs.Common.{◌≡◌, Option, None, Some, Ok, IfSome, ap, ◌∙◌, ok_or}
use Rattle.facet_base.specs.declared.scalar_type.ScalarType.{ScalarType}

-- where each leaf that is found is of a kind, one that is returned on Ok is of that kind
pub kind_of_ok : {L E : Type 0} (kind : L → ScalarType) (k : ScalarType) (found : Option L) (e : E) (x : L) → IfSome found (λ y. kind y ≡ k) → Ok x ≡ ok_or found e → kind x ≡ k
kind_of_ok kind k None e x of same = cc
kind_of_ok kind k (Some y) e x of same = let here : x ≡ y = cc in ap kind here ∙ of
