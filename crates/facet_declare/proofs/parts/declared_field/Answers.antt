use Rattle.std.proofs.Common.{◌≡◌, ◌∙◌, ℕ, List, ap, sym}
use Rattle.facet_base.specs.declared.flags.field_flags.FieldFlags.{FieldFlags}
use Rattle.facet_declare.specs.Parts.{field_flags}
use Rattle.facet_desc.specs.Field.{fresh_field}
use Rattle.facet_desc.specs.WithoutSpare.{field_without_spare}
use Rattle.facet_desc.specs.declared.field.Field.{Field}
use Rattle.facet_declare.proofs.parts.declared_field.Goals as goal
use Rattle.facet_declare.proofs.parts.declared_field.Goals.{then-field, else-field}

flags_of : (f : FieldFlags) (x known : Field) → field_without_spare x ≡ known → field_without_spare (record x { flags = f }) ≡ record known { flags = f }
unfolding field_without_spare
flags_of f x known is = ap (λ (y : Field). record y { flags = f }) is

pub returns : goal.returns
returns c =
    let f = c.args.field.now in
    let with_name = λ (name : List ℕ) (flags : FieldFlags). record (fresh_field name f.shape f.offset) { flags = flags } in
    let flags : c.if-field.flags ≡ record { bits = field_flags f.sensitive } =
    elim c.if-field.branch [
      | then-field w ↦ w.flags-is ∙ ap (λ b. record { bits = field_flags b }) (sym w.if-field.true)
      | else-field w ↦ w.flags-is ∙ ap (λ b. record { bits = b }) (w.empty-flags.ensures tt) ∙ ap (λ b. record { bits = field_flags b }) (sym w.if-field.false)
    ] in
    ap field_without_spare (c.build.ensures ∙ c.flags.ensures)
    ∙ flags_of c.if-field.flags c.new-builder.result _ c.new-builder.ensures
    ∙ ap (λ (name : List ℕ). with_name name c.if-field.flags) c.in_ok-name.ensures
    ∙ ap (with_name f.name) flags
