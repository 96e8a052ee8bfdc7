-- Any thread may give a block back to an allocator with a cap, where any may to the allocator below.
use mir.Syntax.{Dict}
use denote.RattleType.{RattleType}
use denote.Param.Send.{Frees}
use Rattle.core.specs.declared.alloc.Allocator.{Ghosts}
use Rattle.fc_budget.specs.declared.meter.Counting as counting
use Rattle.fc_budget.specs.contracts.capped.CappedAllocator.TheImpl.{ghosts}

pub frees : (B M : RattleType) (g : Ghosts B.Denot) (d : Dict) (g' : counting.Ghosts M.Denot) (d' e e' : Dict) → Frees g g.dealloc_token
    → Frees (ghosts B M g d g' d' e e') (ghosts B M g d g' d' e e').dealloc_token
frees B M g d g' d' e e' f = record { frees = λ b τ p. f.frees b.inner τ p }
