use Rattle.std.proofs.Common.{◌*◌, ◌∙◌, ap}
use Rattle.facet_contain.proofs.ContainerParts.{holds_pairs, pairs}
use Rattle.facet_contain.proofs.maps.map_len.Goals as goal

pub seq-requires : goal.seq-requires
seq-requires g c = holds_pairs c.requires.readable c.requires.kind

pub returns : goal.returns
returns g c = λ v reads. ap (λ n. 2 * n) c.len.ensures ∙ pairs c.requires.readable c.requires.kind c.seq.result.now c.seq.ensures v reads
