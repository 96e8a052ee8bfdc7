use Rattle.std.proofs.Common.{◌≡◌, ℕ, ◌+◌, ◌*◌, ◌<◌, ◌≤◌, arith, refl, add-one}
use Rattle.std.proofs.lemmas.Bool.{false≢true}
use Rattle.std.proofs.Math.Nat.{suc-mul, mul-le-mul_right}
use Rattle.callers_of_map.proofs.requests.take_blocks.Goals as goal

-- one block more
more : (i bytes : ℕ) → (i + 1) * bytes ≡ i * bytes + bytes
more i bytes = rw (add-one i) (suc-mul i bytes)

fits : (i blocks bytes : ℕ) → i < blocks → i * bytes + bytes ≤ blocks * bytes
fits i blocks bytes h =
    let le : i + 1 ≤ blocks = omega (arith, h) in
    let all : (i + 1) * bytes ≤ blocks * bytes = mul-le-mul_right bytes le in
    rw (more i bytes) at all

pub loop-block-init : goal.loop-block-init
loop-block-init c = record { used = omega arith; cap = refl }

pub returns-in_err-take-clause-granted : goal.returns-in_err-take-clause-granted
returns-in_err-take-clause-granted c =
    let left = fits c.loop-block._block c.args.blocks c.args.bytes c.loop-block-test.true in
    absurd (false≢true (c.in_err-take.ensures.fits.1 (omega (arith, left, c.loop-block.invariant.used, c.loop-block.invariant.cap, c.requires.left))))

pub returns-in_err-take-clause-taken : goal.returns-in_err-take-clause-taken
returns-in_err-take-clause-taken c =
    let left = fits c.loop-block._block c.args.blocks c.args.bytes c.loop-block-test.true in
    absurd (false≢true (c.in_err-take.ensures.fits.1 (omega (arith, left, c.loop-block.invariant.used, c.loop-block.invariant.cap, c.requires.left))))

pub loop-block-preserved : goal.loop-block-preserved
loop-block-preserved c =
    let one = more c.loop-block._block c.args.bytes in
    record {
      used = omega (arith, one, c.loop-block.invariant.used, c.in_ok-take.ensures.taken);
      cap = omega (arith, c.take.ensures.cap, c.loop-block.invariant.cap);
    }

pub returns-clause-taken : goal.returns-clause-taken
returns-clause-taken c = let all : c.loop-block._block ≡ c.args.blocks = omega arith in rw (← all) c.loop-block.invariant.used
