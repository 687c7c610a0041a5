use Rattle.std.proofs.Common.{◌≡◌, refl, Bool, true, false, arith, ap, length, take, drop, length-drop}
use Rattle.std.specs.Str.{bytes_eq}
use Rattle.std.proofs.lemmas.List.{length-take}
use Rattle.container_model.proofs.Items.{same_true}
use Rattle.qt_keys.proofs.lawful.holds.Goals as goal

pub returns-then-bytes-at : goal.returns-then-bytes-at
returns-then-bytes-at c = go (bytes_eq (take 4 (drop c.args.at c.args.bytes.now)) c.args.word.now) refl
  where
    go : (t : Bool) → bytes_eq (take 4 (drop c.args.at c.args.bytes.now)) c.args.word.now ≡ t → false ≡ t
    go false e = refl
    go true e =
        let same = ap length (same_true (take 4 (drop c.args.at c.args.bytes.now)) c.args.word.now e) in
        absurd (omega (arith, same, length-take 4 (drop c.args.at c.args.bytes.now), length-drop c.args.at c.args.bytes.now))
