use Rattle.facet_contain.proofs.ContainerParts.{result_tag, tests_ok}
use Rattle.facet_contain.proofs.results.is_ok.Goals as goal

pub tag-requires : goal.tag-requires
tag-requires g c = result_tag c.requires.readable c.requires.kind

pub returns : goal.returns
returns g c = tests_ok c.requires.readable c.requires.kind c.tag.result c.tag.ensures
