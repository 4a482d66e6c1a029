use Rattle.facet_contain.proofs.ContainerParts.{enum_tag, variant}
use Rattle.facet_contain.proofs.enums.variant_of.Goals as goal

pub tag-requires : goal.tag-requires
tag-requires g c = enum_tag c.requires.readable c.requires.kind

pub returns : goal.returns
returns g c = variant c.requires.readable c.requires.kind c.tag.result c.tag.ensures
