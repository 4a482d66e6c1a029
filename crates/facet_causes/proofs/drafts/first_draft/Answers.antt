use Rattle.facet_causes.proofs.drafts.first_draft.Goals as goal

pub loop-s-init : goal.loop-s-init
loop-s-init g c = λ t below. c.requires.sealed c.args.cause t below
