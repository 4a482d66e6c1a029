-- Which proxy stands for a shape or a field.
use Rattle.std.specs.Prelude.{ℕ, ◌||◌, Bool, List, Option, bytes_eq, find, is_some, length, nat_lt, option_and_then, option_map}
use Rattle.std.specs.Option.{option_or}
use Rattle.facet_desc.specs.declared.proxy.FormatProxy.{FormatProxy}
use Rattle.facet_desc.specs.declared.proxy.ProxyDef.{ProxyDef}

-- the first proxy that is listed for a format
abbrev pub listed_proxy : List ℕ → List FormatProxy → Option ProxyDef
listed_proxy format proxies = option_map (λ p. p.proxy) (find (λ p. bytes_eq p.format format) proxies)

-- the first one that is listed for the format where there is one, else the general one, which may be absent
abbrev pub effective_proxy_of : Option (List ℕ) → List FormatProxy → Option ProxyDef → Option ProxyDef
effective_proxy_of format proxies general = option_or (option_and_then (λ f. listed_proxy f proxies) format) general

-- there is a general proxy or one for a format
abbrev pub has_some_proxy : List FormatProxy → Option ProxyDef → Bool
has_some_proxy proxies general = is_some general || nat_lt 0 (length proxies)
