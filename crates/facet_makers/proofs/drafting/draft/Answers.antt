use Rattle.std.proofs.Common.{◌≡◌, OnOk, subst, sym}
use Rattle.facet_makers.proofs.Items.{draft_by_items}
use Rattle.facet_makers.proofs.drafting.draft.Goals as goal

pub returns-clause-ok : goal.returns-clause-ok
returns-clause-ok g c = subst (λ r. OnOk c.push.result (c.push.new.self ≡ r)) (sym (draft_by_items c.args.shapes.now c.args.shape)) c.push.ensures.ok
