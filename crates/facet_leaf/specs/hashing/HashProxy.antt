-- What a write does to a `HashProxy`.
use Rattle.facet_leaf.specs.hashing.HashWrite.{HashWrite}
use Rattle.facet_leaf.specs.declared.hashing.hash_proxy.HashProxy.{HashProxy}

-- the proxy with another state in the sink that it borrows
abbrev pub with_state : {S : Type 0} → HashProxy S → S → HashProxy S
with_state proxy state = record proxy { hasher = record (proxy.hasher) { now = state } }

-- the borrowed sink is fed with the write
abbrev pub proxy_fed : {S : Type 0} → (S → HashWrite → S) → HashProxy S → HashWrite → HashProxy S
proxy_fed fed proxy w = with_state proxy (fed proxy.hasher.now w)
