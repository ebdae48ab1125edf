-- `session_stepping::stepped` meets its contract: the list lies within the buffer. Assumes nothing.
use Rattle.std.proofs.Common.{◌*◌, ◌≤◌, length, sym, arith, length-take-le}
use Rattle.session_stepping.proofs.Few.{few_listed}
use Rattle.session_stepping.proofs.stepped.Goals as goal

pub overflow_mul-lent : goal.overflow_mul-lent
overflow_mul-lent g c = omega (arith, few_listed _ _ _ c.advance-moved.ensures.exactly c.in-Listed.is)

pub slice_bounds-lent-end : goal.slice_bounds-lent-end
slice_bounds-lent-end g c = omega (arith, few_listed _ _ _ c.advance-moved.ensures.exactly c.in-Listed.is)

pub slice_bounds-line-end : goal.slice_bounds-line-end
slice_bounds-line-end g c = let h : 3 * c.in-Listed.n ≤ length c.advance-moved.new.out = omega (arith, few_listed _ _ _ c.advance-moved.ensures.exactly c.in-Listed.is) in sym (length-take-le _ _ h)
