-- The records without a member.
use Rattle.std.specs.Prelude.{false, None}
use Rattle.facet_caps.specs.declared.vtable.VTableDirect.{VTableDirect}
use Rattle.facet_caps.specs.declared.vtable.VTableIndirect.{VTableIndirect}
use Rattle.facet_caps.specs.declared.iter_vtable.IterVTable.{IterVTable}
use Rattle.facet_caps.specs.declared.list_type_ops.ListTypeOps.{ListTypeOps}
use Rattle.facet_caps.specs.declared.list_vtable.ListVTable.{ListVTable}
use Rattle.facet_caps.specs.declared.map_vtable.MapVTable.{MapVTable}
use Rattle.facet_caps.specs.declared.set_vtable.SetVTable.{SetVTable}
use Rattle.facet_caps.specs.declared.option_vtable.OptionVTable.{OptionVTable}
use Rattle.facet_caps.specs.declared.result_vtable.ResultVTable.{ResultVTable}
use Rattle.facet_caps.specs.declared.array_vtable.ArrayVTable.{ArrayVTable}
use Rattle.facet_caps.specs.declared.pointer_vtable.PointerVTable.{PointerVTable}

-- nothing can be done with the values of a type
abbrev pub empty_direct : VTableDirect
empty_direct =
    record {
      display = false;
      debug = false;
      hash = false;
      invariants = false;
      parse = false;
      parse_bytes = false;
      try_from = false;
      try_into_inner = false;
      try_borrow_inner = false;
      partial_eq = false;
      partial_cmp = false;
      cmp = false;
    }

-- the same of a generic type
abbrev pub empty_indirect : VTableIndirect
empty_indirect =
    record {
      display = false;
      debug = false;
      hash = false;
      invariants = false;
      parse = false;
      parse_bytes = false;
      try_from = false;
      try_into_inner = false;
      try_borrow_inner = false;
      partial_eq = false;
      partial_cmp = false;
      cmp = false;
    }

-- an iterator without operations
abbrev pub empty_iterator : IterVTable
empty_iterator =
    record {
      next = false;
      dealloc = false;
      init_with_value = false;
      next_back = false;
      size_hint = false;
    }

-- a list without the operations that need the type of its elements
abbrev pub empty_list_ops : ListTypeOps
empty_list_ops =
    record {
      iter_vtable = empty_iterator;
      init_in_place_with_capacity = false;
      push = false;
      pop = false;
      set_len = false;
      as_mut_ptr_typed = false;
      reserve = false;
      capacity = false;
      from_raw_parts = false;
    }

-- a list without operations
abbrev pub empty_list : ListVTable
empty_list =
    record {
      len = false;
      get = false;
      get_mut = false;
      as_ptr = false;
      as_mut_ptr = false;
      swap = false;
    }

-- a map without operations, and with pairs of no size
abbrev pub empty_map : MapVTable
empty_map =
    record {
      init_in_place_with_capacity = false;
      insert = false;
      len = false;
      contains_key = false;
      get_value_ptr = false;
      iter_vtable = empty_iterator;
      pair_stride = 0;
      value_offset_in_pair = 0;
      from_pair_slice = false;
    }

-- a set without operations
abbrev pub empty_set : SetVTable
empty_set =
    record {
      init_in_place_with_capacity = false;
      insert = false;
      len = false;
      contains = false;
      iter_vtable = empty_iterator;
      from_slice = false;
    }

-- an option without operations
abbrev pub empty_option : OptionVTable
empty_option =
    record {
      is_some = false;
      get_value = false;
      init_some = false;
      init_none = false;
      replace_with = false;
    }

-- a result without operations
abbrev pub empty_result : ResultVTable
empty_result =
    record {
      is_ok = false;
      get_ok = false;
      get_err = false;
      init_ok = false;
      init_err = false;
    }

-- an array without operations
abbrev pub empty_array : ArrayVTable
empty_array = record { as_ptr = false; as_mut_ptr = false }

-- a pointer without operations
abbrev pub empty_pointer : PointerVTable
empty_pointer =
    record {
      upgrade_into_fn = false;
      downgrade_into_fn = false;
      borrow_fn = false;
      new_into_fn = false;
      lock_fn = false;
      read_fn = false;
      write_fn = false;
      slice_builder_vtable = None;
    }
