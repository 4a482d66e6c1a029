use Rattle.std.proofs.Common.{rules}
use Rattle.facet_base.proofs.Hashes.{fnv_fnv}
use Rattle.facet_base.proofs.decl_id.decl_id_hash_extern.Goals as goal

pub returns : goal.returns
returns c = search (rules, fnv_fnv)
