use Rattle.std.proofs.Common.{◌≤◌, ◌-◌, ◌++◌, ◌∷◌, [], ◌∙◌, ap, sym, drop, length, subst, arith, append_assoc}
use Rattle.std.proofs.lemmas.List.{length-drop, take_all}
use Rattle.std.proofs.lemmas.Str.{IsUtf8-append}
use Rattle.std.specs.Str.{IsUtf8}
use Rattle.facet_session.proofs.AnswerTexts.{bracket_utf8}
use Rattle.facet_session.proofs.ListedLeaves.{behind_separator, listed_text}
use Rattle.facet_session.proofs.writing.push_list.Goals as goal

pub returns-clause-written : goal.returns-clause-written
returns-clause-written g c xs is =
    let old = c.args.bytes.now.items in
    let label = c.args.label.now in
    let list = c.args.list.now in
    let long : 2 ≤ length list = omega (arith, c.if-list-lt2.false) in
    let all = take_all (length list - 2) (drop 2 list) (omega (arith, length-drop 2 list)) in
    let first = c.in_ok-extend_from_slice.ensures.items ∙ ap (λ t. old ++ t) c.as_bytes.ensures.value in
    let second = c.in_ok-extend_from_slice-2.ensures.items ∙ ap (λ t. c.extend_from_slice.new.self.items ++ t) all ∙ ap (λ t. t ++ drop 2 list) first in
    c.in_ok-push.ensures.items
    ∙ ap (λ t. t ++ 93 ∷ []) (second ∙ append_assoc old label (drop 2 list))
    ∙ append_assoc old (label ++ drop 2 list) (93 ∷ [])
    ∙ ap (λ t. old ++ t) (listed_text g.L.Leaf.model label list xs is long)

pub returns-clause-utf8 : goal.returns-clause-utf8
returns-clause-utf8 g c xs is old =
    let list = c.args.list.now in
    let long : 2 ≤ length list = omega (arith, c.if-list-lt2.false) in
    let first = subst IsUtf8 (sym c.in_ok-extend_from_slice.ensures.items) (IsUtf8-append _ _ old c.as_bytes.ensures.utf8) in
    let all = take_all (length list - 2) (drop 2 list) (omega (arith, length-drop 2 list)) in
    let rest = subst IsUtf8 (sym all) (behind_separator list g.L.Leaf.model xs is long c.requires) in
    let second = subst IsUtf8 (sym c.in_ok-extend_from_slice-2.ensures.items) (IsUtf8-append _ _ first rest) in
    subst IsUtf8 (sym c.in_ok-push.ensures.items) (IsUtf8-append _ _ second bracket_utf8)
