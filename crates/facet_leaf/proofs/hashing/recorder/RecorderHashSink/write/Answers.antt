use Rattle.std.proofs.Common.{refl}
use Rattle.std.proofs.lemmas.List.{take_min}
use Rattle.facet_leaf.specs.hashing.Recorder.{recorded}
use Rattle.facet_leaf.proofs.hashing.recorder.RecorderHashSink.write.Goals as goal

pub returns : goal.returns
unfolding recorded
returns c =
    rw (← c.self.view_is, c.extend_from_slice.ensures.items, c.unwrap.ensures, c.saturating_add-self-inside.ensures, c.min-len.ensures, take_min, c.len.ensures, c.self.inside.kept.ok.0) refl
