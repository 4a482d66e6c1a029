-- Which questions the values of a shape answer, and the rank of a form.
use Rattle.std.specs.Prelude.{ℕ, ℤ, pos, ◌≡◌, Bool, true, false, ◌&&◌, if◌then◌else◌, List, [], Option, None, slice_get, unwrap_or}
use Rattle.std.specs.List.{list_all}
use Rattle.std.specs.Option.{option_map_or}
use Rattle.facet_base.specs.declared.characteristic.Characteristic.{Characteristic}
use Rattle.facet_causes.specs.DistinctVariants.{discriminants_in}
use Rattle.facet_causes.specs.Reading.{parts_at}
use Rattle.facet_graph.specs.Reach.{Reaches}
use Rattle.facet_registry.specs.Registry.{offers}
use Rattle.facet_shape.specs.declared.shape.Shape.{Shape}
use Rattle.facet_trees.specs.Structure.{Structure, no_values, sequence, structure_at, tag_of_form}
use Rattle.facet_trees.specs.declared.form.Form.{Form}
use Rattle.facet_trees.specs.declared.form.Form.TheVariants as form

module _ (shapes : List Shape) where
  -- a comparison is answered by the structure: of a list or a boxed slice where it is by the record of the elements too, so that an empty one answers as a full one; of a map or a set never
  abbrev pub is_comparable : Structure → Characteristic → Bool
  is_comparable no_values c = false
  is_comparable (sequence form.List ids) c = list_all (λ id. offers shapes id.0 c) ids
  is_comparable (sequence form.BoxedSlice ids) c = list_all (λ id. offers shapes id.0 c) ids
  is_comparable (sequence form.Map ids) c = false
  is_comparable (sequence form.Set ids) c = false
  is_comparable _ c = true

  -- a comparison of two values of the shape is answered, as far as can be told before their parts are looked at
  abbrev pub is_answered : Characteristic → ℕ → Bool
  is_answered c s = offers shapes s c && is_comparable (structure_at shapes s) c

  -- by what forms are compared: variants by their discriminants, the forms of an option and of a result by their tags
  abbrev pub rank_at : ℕ → Form → ℤ
  rank_at s form = unwrap_or (slice_get (option_map_or (discriminants_in shapes) (slice_get shapes s) []) (tag_of_form form)) (pos (tag_of_form form))

  -- each shape that is reached by parts from the one under an id has the capability, the shape itself too
  abbrev pub AllOffer : Characteristic → ℕ → Type 0
  AllOffer c s = (part : ℕ) → Reaches (parts_at shapes) s part → offers shapes part c ≡ true

-- an answer, where there is one
abbrev pub answer_if : {A : Type 0} → Bool → Option A → Option A
answer_if is_there answer = if is_there then answer else None
