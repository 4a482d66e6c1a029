-- The place that a `PtrUninit` points to: it has always one.
use Rattle.facet_block.specs.declared.ptr_mut.PtrMut.{PtrMut}
use Rattle.facet_block.specs.declared.ptr_uninit.PtrUninit.{PtrUninit}
use Rattle.facet_block.specs.declared.ptr_uninit.PtrUninit.TheVariants.{At, Not}

-- where it points
abbrev pub place_of : {X : Type 0} → PtrUninit X → PtrMut X
place_of (At p) = p
place_of (Not n) = elim n [ ]
