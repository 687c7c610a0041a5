use Rattle.me_disk.proofs.Holds.{holds_on}
use Rattle.mov_plan.specs.Keyed.{changes_of as key_changes}
use Rattle.mov_plan.specs.Users.{changes_of as user_changes}
use Rattle.mov_plan.proofs.Carried.{both_carried, keys_large, user_large}
use Rattle.mov_plan.proofs.moov_carriers.carriers.Goals as goal

pub returns-in-Err-clause-carriers : goal.returns-in-Err-clause-carriers
returns-in-Err-clause-carriers g c = λ b holds bytes sup row.
    user_large b (user_changes c.args.users.now) (key_changes c.args.keys.now) c.in-Err.fault (c.in-Err.ensures.carry b holds bytes sup row)

pub returns-in-Err-key_carry-clause-carriers : goal.returns-in-Err-key_carry-clause-carriers
returns-in-Err-key_carry-clause-carriers g c = λ b holds bytes sup row.
    let held = holds_on _ _ b c.user_carry.ensures.reads holds in
    keys_large b (user_changes c.args.users.now) (key_changes c.args.keys.now) c.in-Ok.user c.in-Err-key_carry.fault (c.in-Ok.ensures.carry b holds bytes sup row) (c.in-Err-key_carry.ensures.carry b held bytes sup row)

pub returns-in-Ok-key_carry-clause-carriers : goal.returns-in-Ok-key_carry-clause-carriers
returns-in-Ok-key_carry-clause-carriers g c = λ b holds bytes sup row.
    let held = holds_on _ _ b c.user_carry.ensures.reads holds in
    both_carried b (user_changes c.args.users.now) (key_changes c.args.keys.now) c.in-Ok.user c.in-Ok-key_carry.keys (c.in-Ok.ensures.carry b holds bytes sup row) (c.in-Ok-key_carry.ensures.carry b held bytes sup row)
