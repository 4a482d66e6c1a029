-- The word for the kind of a type.
use Rattle.std.proofs.Common.{◌≡◌, refl}
use Rattle.facet_desc.specs.Ty.{kind_text}
use Rattle.facet_desc.specs.WithoutSpare.{ty_without_spare}
use Rattle.facet_desc.specs.declared.pointer.PointerType.TheVariants as pointer
use Rattle.facet_desc.specs.declared.ty.Ty.{Ty}
use Rattle.facet_desc.specs.declared.ty.Ty.TheVariants as ty
use Rattle.facet_desc.specs.declared.ty.UserType.TheVariants as user

-- how much room lists have says nothing of it
pub kind_by_items : (t : Ty) → kind_text (ty_without_spare t) ≡ kind_text t
kind_by_items (ty.User (user.Struct s)) = refl
kind_by_items (ty.User (user.Enum e)) = refl
kind_by_items (ty.User user.Opaque) = refl
kind_by_items (ty.Pointer (pointer.Function f)) = refl
kind_by_items (ty.Pointer (pointer.Reference p)) = refl
kind_by_items (ty.Pointer (pointer.Raw p)) = refl
kind_by_items ty.Undefined = refl
kind_by_items (ty.Primitive p) = refl
kind_by_items (ty.Sequence s) = refl
