-- Writes through a proxy.
use Rattle.std.proofs.Common.{◌≡◌, refl, List, [], ◌∷◌}
use Rattle.facet_leaf.specs.hashing.HashWrite.{HashWrite, fed_all}
use Rattle.facet_leaf.specs.hashing.HashProxy.{with_state, proxy_fed}
use Rattle.facet_leaf.specs.declared.hashing.hash_proxy.HashProxy.{HashProxy}

-- some writes to a proxy are those writes to the sink that it borrows
pub proxy_fed_all : {S : Type 0} (fed : S → HashWrite → S) (proxy : HashProxy S) (ws : List HashWrite) → fed_all (proxy_fed fed) proxy ws ≡ with_state proxy (fed_all fed proxy.hasher.now ws)
proxy_fed_all fed proxy [] = refl
proxy_fed_all fed proxy (w ∷ ws) = proxy_fed_all fed (proxy_fed fed proxy w) ws
