use Rattle.std.proofs.Common.{◌≡◌, ◌∙◌, ◌+◌, ◌-◌, ◌^◌, ◌≤◌, ℕ, Bool, true, List, length, arith, refl, sym, ap}
use Rattle.std.specs.Prelude.{if◌then◌else◌, not, Some, None}
use Rattle.std.specs.Int.{w32, from_le_bytes}
use Rattle.me_disk.specs.Disk.{bytes_of}
use Rattle.me_disk.specs.Holds.{Holds}
use Rattle.part_tree.specs.declared.why.Why.TheVariants.{IndexPlace}
use Rattle.part_tree.specs.Ranges.{in_one}
use Rattle.container_model.specs.Written.{slice}
use Rattle.container_model.proofs.Written.{length-slice}
use Rattle.container_model.specs.Tables.{size_at}
use Rattle.avi_file.proofs.Held.{one_ends, not_longer}
use Rattle.avi_file.proofs.Opened.{span_of}
use Rattle.avi_file.proofs.index.named_body.Goals as goal

pub returns-then-not-in_one-clause-place : goal.returns-then-not-in_one-clause-place
returns-then-not-in_one-clause-place g c b holds =
    let p = c.args.place in
    ap (λ (t : Bool). if not t then Some (IndexPlace p) else None) (not_longer c.args.movis.now p 8 (8 + size_at b p) (omega arith) (sym c.in_one.ensures ∙ c.if-not-in_one.true))

pub overflow_add-place : goal.overflow_add-place
overflow_add-place g c =
    let near : c.args.place + 8 ≤ 2 ^ 63 - 1 = one_ends (2 ^ 63 - 1) c.args.movis.now c.args.place 8 c.requires.small (sym c.in_one.ensures ∙ c.if-not-in_one.false) in
    omega arith

pub read_at-requires : goal.read_at-requires
read_at-requires g c tells =
    let b = bytes_of (g.D.Depot.disk c.args.depot.now).slots.main in
    let holds : Holds (g.D.Depot.disk c.args.depot.now) b = record { tells = tells; bytes = refl } in
    let near : c.args.place + 8 ≤ length b = one_ends (length b) c.args.movis.now c.args.place 8 (c.requires.inside b holds) (sym c.in_one.ensures ∙ c.if-not-in_one.false) in
    omega arith

pub overflow_add-result : goal.overflow_add-result
overflow_add-result g c =
    let near : c.args.place + 8 ≤ 2 ^ 63 - 1 = one_ends (2 ^ 63 - 1) c.args.movis.now c.args.place 8 c.requires.small (sym c.in_one.ensures ∙ c.if-not-in_one.false) in
    omega arith

pub returns-then-not-in_one-2-clause-place : goal.returns-then-not-in_one-2-clause-place
returns-then-not-in_one-2-clause-place g c b holds =
    let p = c.args.place in
    let word : c.read_at.new.into ≡ slice b (p + 4) 4 = c.in-Ok.ensures.bytes holds.tells ∙ ap (λ (x : List ℕ). slice x (p + 4) 4) holds.bytes in
    let size : c.from-len.result ≡ size_at b p = c.from-len.ensures ∙ c.from_le_bytes.ensures ∙ ap (from_le_bytes w32) word in
    ap (λ (n : ℕ). if not (in_one c.args.movis.now p (8 + n)) then Some (IndexPlace p) else None) (sym size)
    ∙ ap (λ (t : Bool). if not t then Some (IndexPlace p) else None) (sym c.in_one-2.ensures ∙ c.if-not-in_one-2.true)

pub returns-clause-place : goal.returns-clause-place
returns-clause-place g c b holds =
    let p = c.args.place in
    let word : c.read_at.new.into ≡ slice b (p + 4) 4 = c.in-Ok.ensures.bytes holds.tells ∙ ap (λ (x : List ℕ). slice x (p + 4) 4) holds.bytes in
    let size : c.from-len.result ≡ size_at b p = c.from-len.ensures ∙ c.from_le_bytes.ensures ∙ ap (from_le_bytes w32) word in
    let one : in_one c.args.movis.now p (8 + size_at b p) ≡ true = ap (λ (n : ℕ). in_one c.args.movis.now p (8 + n)) (sym size) ∙ sym c.in_one-2.ensures ∙ c.if-not-in_one-2.false in
    let whole : p + (8 + size_at b p) ≤ length b = one_ends (length b) c.args.movis.now p (8 + size_at b p) (c.requires.inside b holds) one in
    (one, ap (span_of (p + 8)) (size ∙ sym (length-slice b (p + 8) (size_at b p) (omega arith))))

pub returns-clause-small : goal.returns-clause-small
returns-clause-small g c =
    let near : c.args.place + (8 + c.from-len.result) ≤ 2 ^ 63 - 1 = one_ends (2 ^ 63 - 1) c.args.movis.now c.args.place (8 + c.from-len.result) c.requires.small (sym c.in_one-2.ensures ∙ c.if-not-in_one-2.false) in
    omega arith

pub returns-clause-inside : goal.returns-clause-inside
returns-clause-inside g c b holds =
    let near : c.args.place + (8 + c.from-len.result) ≤ length b = one_ends (length b) c.args.movis.now c.args.place (8 + c.from-len.result) (c.requires.inside b holds) (sym c.in_one-2.ensures ∙ c.if-not-in_one-2.false) in
    omega arith
