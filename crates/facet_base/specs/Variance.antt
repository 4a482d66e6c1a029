-- How the lifetimes in a type may change: whether they may shrink, and whether they may grow.
use Rattle.std.specs.Prelude.{◌≡◌, ◌⊎◌, Bool, true, false, ◌&&◌}
use Rattle.facet_base.specs.declared.variance.Variance.{Variance}
use Rattle.facet_base.specs.declared.variance.Variance.TheVariants.{Bivariant, Covariant, Contravariant, Invariant}

-- whether lifetimes may shrink
abbrev pub shrinks : Variance → Bool
shrinks Bivariant = true
shrinks Covariant = true
shrinks Contravariant = false
shrinks Invariant = false

-- whether lifetimes may grow
abbrev pub grows : Variance → Bool
grows Bivariant = true
grows Covariant = false
grows Contravariant = true
grows Invariant = false

-- the variance under which lifetimes may shrink so, and grow so
abbrev pub variance_of : Bool → Bool → Variance
variance_of true true = Bivariant
variance_of true false = Covariant
variance_of false true = Contravariant
variance_of false false = Invariant

-- the join of two: lifetimes may do what they may under both
abbrev pub join : Variance → Variance → Variance
join a b = variance_of (shrinks a && shrinks b) (grows a && grows b)

-- the two exchanged: lifetimes may shrink where they could grow, and grow where they could shrink
abbrev pub flipped : Variance → Variance
flipped a = variance_of (grows a) (shrinks a)

-- the order: Bivariant is below Covariant and Contravariant, and these are below Invariant
abbrev pub IsAtOrBelow : Variance → Variance → Type 0
IsAtOrBelow a b = (a ≡ Bivariant) ⊎ (a ≡ b) ⊎ (b ≡ Invariant)
