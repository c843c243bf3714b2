-- No refusal has the number 0, or one that is withdrawn. Assumes nothing.
use mathlib.Core.Path.{refl}
use native.Mathlib.Omega.{arith}
use Rattle.pages.specs.Pages.{has}
use Rattle.trace.specs.Promises.{AllGiven}
use Rattle.trace.specs.declared.Reason.TheVariants.{BadHeader, BadValues, BadLength, BadField, TimeFalls, BadSetting, NotWhole, SmallCache, BadStart, NoRoom, JoinFalls, JoinTooLarge, KeptFalls, NoSettings, InputTooLong}

pub all_given : AllGiven
unfolding has
all_given BadHeader = record { some = omega arith; stands = refl }
all_given BadValues = record { some = omega arith; stands = refl }
all_given BadLength = record { some = omega arith; stands = refl }
all_given (BadField i) = record { some = omega arith; stands = refl }
all_given (TimeFalls i) = record { some = omega arith; stands = refl }
all_given BadSetting = record { some = omega arith; stands = refl }
all_given NotWhole = record { some = omega arith; stands = refl }
all_given SmallCache = record { some = omega arith; stands = refl }
all_given BadStart = record { some = omega arith; stands = refl }
all_given NoRoom = record { some = omega arith; stands = refl }
all_given JoinFalls = record { some = omega arith; stands = refl }
all_given JoinTooLarge = record { some = omega arith; stands = refl }
all_given KeptFalls = record { some = omega arith; stands = refl }
all_given NoSettings = record { some = omega arith; stands = refl }
all_given InputTooLong = record { some = omega arith; stands = refl }
