-- `filter::flags::Flags::put` meets its contract. Assumes nothing.
use mathlib.Core.Path.{◌≡◌, ◌∙◌}
use native.Mathlib.Omega.{arith}
use lib.ListN.{get_or, length-set}
use lib.Dec.{eqb}
use Rattle.filter.specs.Filter.{places, flag_of, flags_of}
use Rattle.filter.proofs.Bits.{flags_most, flags_put, byte_is, flag_most}
use Rattle.filter.proofs.flags.Flags.put.Goals as goal

pub put_flag-requires : goal.put_flag-requires
put_flag-requires c =
    omega (arith, c.args.self.now.is_long, c.requires)

pub overflow_add-self : goal.overflow_add-self
overflow_add-self c =
    let on = c.from.ensures ∙ byte_is c.args.on in
    let few = flags_most places (flags_of c.args.self.now.bytes) in
    let count = c.args.self.now.is_count in
    let bit = flag_most c.args.on in
    record { fits = omega arith }

-- No more are cleared than are set.
pub overflow_sub-self : goal.overflow_sub-self
overflow_sub-self c =
    let on = c.from.ensures ∙ byte_is c.args.on in
    let was = c.from-2.ensures ∙ byte_is c.is_set-was.result in
    let put = flags_put places (flags_of c.args.self.now.bytes) c.args.j c.requires (omega (arith, c.args.self.now.is_long)) c.args.on in
    let count = c.args.self.now.is_count in
    let is = c.is_set-was.ensures in
    let was' : c.from-2.result ≡ flag_of (eqb (get_or (flags_of c.args.self.now.bytes) c.args.j 0) 1) = rw is at was in
    omega arith

pub invariant_of-self : goal.invariant_of-self
invariant_of-self c =
    let on = c.from.ensures ∙ byte_is c.args.on in
    let was = c.from-2.ensures ∙ byte_is c.is_set-was.result in
    let put = flags_put places (flags_of c.args.self.now.bytes) c.args.j c.requires (omega (arith, c.args.self.now.is_long)) c.args.on in
    let count = c.args.self.now.is_count in
    let is = c.is_set-was.ensures in
    let was' : c.from-2.result ≡ flag_of (eqb (get_or (flags_of c.args.self.now.bytes) c.args.j 0) 1) = rw is at was in
    let after = c.put_flag.ensures in
    record { is_long = rw (after, length-set) c.args.self.now.is_long; is_count = rw after (omega arith) }
