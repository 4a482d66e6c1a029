-- What attributes are looked up by.
use Rattle.std.specs.Prelude.{ℕ, ◌||◌, ◌&&◌, Bool, false, true, List, Option, None, Some, bytes_eq, codes, find, is_some}
use Rattle.std.specs.Option.{option_eq}
use Rattle.facet_desc.specs.declared.attribute.Attr.{Attr}
use Rattle.facet_desc.specs.declared.attribute.AttrData.{AttrData}
use Rattle.facet_desc.specs.declared.attribute.AttrData.TheVariants as payload
use Rattle.facet_desc.specs.declared.attribute.AttrKind.{AttrKind}
use Rattle.facet_desc.specs.declared.attribute.AttrKind.TheVariants as kind

-- the attribute is of that namespace, none for a builtin one, and that key
abbrev pub is_named : Option (List ℕ) → List ℕ → Attr → Bool
is_named ns key attribute = option_eq bytes_eq ns attribute.ns && bytes_eq key attribute.key

-- two attributes are of one namespace and one key
abbrev pub same_name : Attr → Attr → Bool
same_name a b = is_named a.ns a.key b

-- the first attribute of a namespace and a key
abbrev pub first_attribute : Option (List ℕ) → List ℕ → List Attr → Option Attr
first_attribute ns key attributes = find (is_named ns key) attributes

-- one of the attributes is of that namespace and key
abbrev pub has_attribute : Option (List ℕ) → List ℕ → List Attr → Bool
has_attribute ns key attributes = is_some (first_attribute ns key attributes)

-- one of the attributes is builtin or of XML or HTML, and of that key
abbrev pub has_markup_attribute : List ℕ → List Attr → Bool
has_markup_attribute key attributes =
    has_attribute None key attributes || has_attribute (Some (codes "xml")) key attributes || has_attribute (Some (codes "html")) key attributes

-- the payload is of that kind
abbrev pub same_kind : AttrKind → AttrData → Bool
same_kind kind.Unit payload.Unit = true
same_kind kind.Bool (payload.Bool b) = true
same_kind kind.Int (payload.Int n) = true
same_kind kind.Text (payload.Text text) = true
same_kind kind.Shape (payload.Shape shape) = true
same_kind _ _ = false
