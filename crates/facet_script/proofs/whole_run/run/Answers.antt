use Rattle.std.proofs.Common.{refl, inl}
use Rattle.facet_script.specs.declared.report.Status.TheVariants.{Usage, ReadFault, TooLong, NoMemory}
use Rattle.facet_script.proofs.ServedRuns.{idle, out_of_memory_first}
use Rattle.facet_script.proofs.whole_run.run.Goals as goal

pub returns-then-not-is_empty-clause-served : goal.returns-then-not-is_empty-clause-served
returns-then-not-is_empty-clause-served g c = rw c.stopped.ensures (idle g.L.Leaf.model _ _ c.args.session.now Usage (λ script. (refl, refl)) (λ script none. none) c.requires)

pub returns-in-Err-Failed-clause-served : goal.returns-in-Err-Failed-clause-served
returns-in-Err-Failed-clause-served g c = rw c.stopped-in-Err-Failed.ensures (idle g.L.Leaf.model _ _ c.args.session.now ReadFault (λ script. (refl, refl)) (λ script none. none) c.requires)

pub returns-in-Err-TooLong-clause-served : goal.returns-in-Err-TooLong-clause-served
returns-in-Err-TooLong-clause-served g c = rw c.stopped-in-Err-TooLong.ensures (idle g.L.Leaf.model _ _ c.args.session.now TooLong (λ script. (refl, refl)) (λ script none. none) c.requires)

pub returns-in-Err-Memory-clause-served : goal.returns-in-Err-Memory-clause-served
returns-in-Err-Memory-clause-served g c = rw c.stopped-in-Err-Memory.ensures (idle g.L.Leaf.model _ _ c.args.session.now NoMemory (out_of_memory_first g.L.Leaf.model) (λ script none. inl none) c.requires)
