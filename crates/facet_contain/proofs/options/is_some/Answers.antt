use Rattle.facet_contain.proofs.ContainerParts.{option_tag, tests_present}
use Rattle.facet_contain.proofs.options.is_some.Goals as goal

pub tag-requires : goal.tag-requires
tag-requires g c = option_tag c.requires.readable c.requires.kind

pub returns : goal.returns
returns g c = tests_present c.requires.readable c.requires.kind c.tag.result c.tag.ensures
