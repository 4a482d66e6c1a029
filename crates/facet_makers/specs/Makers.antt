-- The shape that each maker drafts. What a row doesn't name is unset, as in a fresh shape.
use Rattle.std.specs.Prelude.{ℕ, List, ◌++◌, None, Some, codes, length}
use Rattle.facet_base.specs.declared.known_pointer.KnownPointer.TheVariants as known
use Rattle.facet_base.specs.declared.layout.Layout.{Layout}
use Rattle.facet_base.specs.declared.layout.ShapeId.{ShapeId}
use Rattle.facet_base.specs.declared.layout.ShapeLayout.TheVariants.{Sized, Unsized}
use Rattle.facet_base.specs.declared.type_name.NameForm.TheVariants as form
use Rattle.facet_caps.specs.declared.pointer_vtable.PointerVTable.{PointerVTable}
use Rattle.facet_def.specs.declared.def.Def.{Def}
use Rattle.facet_def.specs.declared.def.Def.TheVariants as def
use Rattle.facet_desc.specs.declared.sequence.SequenceType.TheVariants as sequence
use Rattle.facet_desc.specs.declared.ty.Ty.TheVariants as ty
use Rattle.facet_leaf.specs.LeafModel.{LeafModel}
use Rattle.facet_makers.specs.Generic.{built_in, in_module, with_length, with_parameter}
use Rattle.facet_makers.specs.Offering.{offering, offering_comparison}
use Rattle.facet_makers.specs.Operations.{array_operations, box_operations, boxed_slice_operations, element_operations, list_operations, map_operations, option_operations, result_operations, set_operations, slice_operations}
use Rattle.facet_makers.specs.Types.{TupleParts, ellipsis, opaque, option_type, tuple_identifier, tuple_parts, tuple_type}
use Rattle.facet_outline.specs.Layout.{array_layout, box_layout, boxed_slice_layout, container_layout, option_layout, result_layout, rounded}
use Rattle.facet_outline.specs.declared.value_kind.ValueKind.TheVariants as kind
use Rattle.facet_shape.specs.declared.shape.Shape.{Shape}

-- a box of the shape that it points to
abbrev pub box_of : PointerVTable → ShapeId → Def
box_of operations t =
    def.Pointer (record {
      vtable = operations;
      pointee = Some t;
      weak = None;
      strong = None;
      flags = record { bits = 0 };
      known = Some known.Box;
    })

module _ {L : Type 0} (m : LeafModel L) where
  -- an option of t, whose layout is `part`
  unfoldable pub option_shape : ShapeId → Layout → Shape
  option_shape t part =
      record (offering m kind.Option (with_parameter (codes "T") t (in_module (codes "Option") (codes "core::option") (option_type t part) (Sized (option_layout part))))) {
        def = def.Option (record { vtable = option_operations; t = t });
        inner = Some t;
        type_name = Some form.Option;
      }

  -- a result of t or e, whose layouts are `part` and `error`
  unfoldable pub result_shape : ShapeId → ShapeId → Layout → Layout → Shape
  result_shape t e part error =
      record (offering m kind.Result (with_parameter (codes "E") e (with_parameter (codes "T") t (in_module (codes "Result") (codes "core::result") opaque (Sized (result_layout part error)))))) {
        def = def.Result (record { vtable = result_operations; t = t; e = e });
        type_name = Some form.Result;
      }

  -- a list of t
  unfoldable pub list_shape : ShapeId → Shape
  list_shape t =
      record (offering m kind.List (with_parameter (codes "T") t (in_module (codes "Vec") (codes "alloc::vec") opaque (Sized container_layout)))) {
        def = def.List (record { vtable = list_operations; type_ops = Some element_operations; t = t });
        inner = Some t;
        type_name = Some form.Vec;
      }

  -- a map from k to v, whose layouts are `key` and `value`
  unfoldable pub map_shape : ShapeId → ShapeId → Layout → Layout → Shape
  map_shape k v key value =
      record (offering m kind.Map (with_parameter (codes "V") v (with_parameter (codes "K") k (in_module (codes "BTreeMap") (codes "alloc::collections::btree_map") opaque (Sized container_layout))))) {
        def = def.Map (record { vtable = map_operations key value; k = k; v = v });
        type_name = Some form.Map;
      }

  -- a set of t
  unfoldable pub set_shape : ShapeId → Shape
  set_shape t =
      record (offering m kind.Set (with_parameter (codes "T") t (in_module (codes "BTreeSet") (codes "alloc::collections::btree_set") opaque (Sized container_layout)))) {
        def = def.Set (record { vtable = set_operations; t = t });
        inner = Some t;
        type_name = Some form.Set;
      }

  -- n elements t, whose layout is `part`
  unfoldable pub array_shape : ShapeId → ℕ → Layout → Shape
  array_shape t n part =
      record (offering m kind.Array (with_length n (with_parameter (codes "T") t (built_in (codes "[T; N]") (codes "#array#[T; N]") (ty.Sequence (sequence.Array (record { t = t; n = n }))) (Sized (array_layout n part)))))) {
        def = def.Array (record { vtable = array_operations; t = t; n = n });
        inner = Some t;
        type_name = Some form.Array;
      }

  -- any number of elements t
  unfoldable pub slice_shape : ShapeId → Shape
  slice_shape t =
      record (offering m kind.NoValue (with_parameter (codes "T") t (built_in (codes "[T]") (codes "#slice#[T]") (ty.Sequence (sequence.Slice (record { t = t }))) Unsized))) {
        def = def.Slice (record { vtable = slice_operations; t = t });
        inner = Some t;
        type_name = Some form.Slice;
      }

  -- a box of t, which is no slice
  unfoldable pub box_shape : ShapeId → Shape
  box_shape t =
      record (offering m kind.Box (with_parameter (codes "T") t (in_module (codes "Box") (codes "alloc::boxed") opaque (Sized box_layout)))) {
        def = box_of box_operations t;
        type_name = Some form.Box;
      }

  -- a box of t, which is a slice
  unfoldable pub boxed_slice_shape : ShapeId → Shape
  boxed_slice_shape t =
      record (offering m kind.BoxedSlice (with_parameter (codes "T") t (in_module (codes "Box") (codes "alloc::boxed") opaque (Sized boxed_slice_layout)))) {
        def = box_of boxed_slice_operations t;
        type_name = Some form.Box;
      }

-- a tuple of these fields, under an identifier
unfoldable pub tuple_of : List ℕ → TupleParts → Shape
tuple_of identifier tuple =
    record (offering_comparison (built_in identifier (codes "#tuple#(" ++ ellipsis ++ codes ")") (tuple_type tuple.fields) (Sized (rounded tuple.end tuple.align)))) {
      type_name = Some form.Tuple;
    }

-- a tuple of the shapes, whose layouts `part` says
abbrev pub tuple_shape : (ShapeId → Layout) → List ShapeId → Shape
tuple_shape part ids = tuple_of (tuple_identifier (length ids)) (tuple_parts part ids)
