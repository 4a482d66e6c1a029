-- What the functions of this crate ask of shapes.
use Rattle.std.specs.Prelude.{◌≡◌, ℕ, List, Some, slice_get}
use Rattle.facet_base.specs.declared.layout.ShapeId.{ShapeId}
use Rattle.facet_causes.specs.Arrangement.{part_at}
use Rattle.facet_causes.specs.Reading.{kind_in}
use Rattle.facet_def.specs.declared.def.Def.TheVariants as def
use Rattle.facet_def.specs.declared.list_def.ListDef.{ListDef}
use Rattle.facet_def.specs.declared.option_def.OptionDef.{OptionDef}
use Rattle.facet_desc.specs.declared.struct_type.StructType.{StructType}
use Rattle.facet_desc.specs.declared.ty.Ty.TheVariants as ty
use Rattle.facet_desc.specs.declared.ty.UserType.TheVariants as user
use Rattle.facet_leaf.specs.LeafModel.{LeafModel}
use Rattle.facet_outline.specs.Field.{placed}
use Rattle.facet_outline.specs.Layout.{option_offset}
use Rattle.facet_outline.specs.declared.value_kind.ValueKind.TheVariants as kind
use Rattle.facet_shape.specs.declared.shape.Shape.{Shape}
use Rattle.facet_trees.specs.Value.{leaf, node, none, more}
use Rattle.facet_trees.specs.declared.form.Form.TheVariants as form
use Rattle.facet_values.specs.Place.{Place}
use Rattle.facet_values.specs.Reading.{Reads}

module _ (shapes : List Shape) where
  -- under the id stands an option of the other shape, whose part lies so many bytes behind its start
  pub record IsOptionOf (s : ℕ) (part : ShapeId) (offset : ℕ) : Type 0 where
    pub shape : Shape
    pub option : OptionDef
    pub found : slice_get shapes s ≡ Some shape
    pub is_option : kind_in shapes shape ≡ kind.Option
    pub definition : shape.def ≡ def.Option option
    pub part_is : option.t ≡ part
    pub offset_is : offset ≡ option_offset (part_at shapes part)

  -- under the id stands a list of elements of the other shape
  pub record IsListOf (s : ℕ) (element : ShapeId) : Type 0 where
    pub shape : Shape
    pub list : ListDef
    pub found : slice_get shapes s ≡ Some shape
    pub is_list : kind_in shapes shape ≡ kind.List
    pub definition : shape.def ≡ def.List list
    pub element_is : list.t ≡ element

  -- under the id stands a struct whose field of an index is of the other shape, and lies at the offset
  pub record HasField (s index : ℕ) (part : ShapeId) (offset : ℕ) : Type 0 where
    pub shape : Shape
    pub type : StructType
    pub found : slice_get shapes s ≡ Some shape
    pub is_struct : kind_in shapes shape ≡ kind.Struct
    pub definition : shape.ty ≡ ty.User (user.Struct type)
    pub field : slice_get (placed type) index ≡ Some (record { shape = part; offset = offset })

-- a place reads as an option that holds a leaf
pub record HoldsLeaf {L : Type 0} (m : LeafModel L) (shapes : List Shape) (p : Place L) : Type 0 where
  pub held : L
  pub reads : Reads m shapes p (node form.Present (more (leaf held) none))
