use Rattle.facet_causes.proofs.laws.first_cause_refuses.Goals as goal

pub returns : goal.returns
returns g c = λ shapes cause s first well. well cause s first.least.0 first.least.1
