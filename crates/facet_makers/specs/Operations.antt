-- The operations of the containers: every one that a record has, but the size hint of iterators.
use Rattle.std.specs.Prelude.{true, Some}
use Rattle.facet_base.specs.declared.layout.Layout.{Layout}
use Rattle.facet_caps.specs.EmptyRecords.{empty_iterator, empty_pointer}
use Rattle.facet_caps.specs.declared.array_vtable.ArrayVTable.{ArrayVTable}
use Rattle.facet_caps.specs.declared.iter_vtable.IterVTable.{IterVTable}
use Rattle.facet_caps.specs.declared.list_type_ops.ListTypeOps.{ListTypeOps}
use Rattle.facet_caps.specs.declared.list_vtable.ListVTable.{ListVTable}
use Rattle.facet_caps.specs.declared.map_vtable.MapVTable.{MapVTable}
use Rattle.facet_caps.specs.declared.option_vtable.OptionVTable.{OptionVTable}
use Rattle.facet_caps.specs.declared.pointer_vtable.PointerVTable.{PointerVTable}
use Rattle.facet_caps.specs.declared.result_vtable.ResultVTable.{ResultVTable}
use Rattle.facet_caps.specs.declared.set_vtable.SetVTable.{SetVTable}
use Rattle.facet_caps.specs.declared.slice_vtable.SliceVTable.{SliceVTable}
use Rattle.facet_outline.specs.Layout.{pair_layout, value_offset}

-- an iterator
abbrev pub iterator : IterVTable
iterator = record empty_iterator { next = true; dealloc = true; init_with_value = true; next_back = true }

-- an option
abbrev pub option_operations : OptionVTable
option_operations = record { is_some = true; get_value = true; init_some = true; init_none = true; replace_with = true }

-- a result
abbrev pub result_operations : ResultVTable
result_operations = record { is_ok = true; get_ok = true; get_err = true; init_ok = true; init_err = true }

-- a list
abbrev pub list_operations : ListVTable
list_operations = record { len = true; get = true; get_mut = true; as_ptr = true; as_mut_ptr = true; swap = true }

-- a list of elements of a known type
abbrev pub element_operations : ListTypeOps
element_operations =
    record {
      iter_vtable = iterator;
      init_in_place_with_capacity = true;
      push = true;
      pop = true;
      set_len = true;
      as_mut_ptr_typed = true;
      reserve = true;
      capacity = true;
      from_raw_parts = true;
    }

-- a map whose keys and values have these layouts
abbrev pub map_operations : Layout → Layout → MapVTable
map_operations key value =
    record {
      init_in_place_with_capacity = true;
      insert = true;
      len = true;
      contains_key = true;
      get_value_ptr = true;
      iter_vtable = iterator;
      pair_stride = (pair_layout key value).size;
      value_offset_in_pair = value_offset key value;
      from_pair_slice = true;
    }

-- a set
abbrev pub set_operations : SetVTable
set_operations =
    record {
      init_in_place_with_capacity = true;
      insert = true;
      len = true;
      contains = true;
      iter_vtable = iterator;
      from_slice = true;
    }

-- an array
abbrev pub array_operations : ArrayVTable
array_operations = record { as_ptr = true; as_mut_ptr = true }

-- a slice
abbrev pub slice_operations : SliceVTable
slice_operations = record { len = true; as_ptr = true; as_mut_ptr = true }

-- a box: it is borrowed, and made of its content
abbrev pub box_operations : PointerVTable
box_operations = record empty_pointer { borrow_fn = true; new_into_fn = true }

-- a boxed slice: it is borrowed, and built of its elements
abbrev pub boxed_slice_operations : PointerVTable
boxed_slice_operations =
    record empty_pointer {
      borrow_fn = true;
      slice_builder_vtable = Some (record { new_fn = true; push_fn = true; convert_fn = true; free_fn = true });
    }
