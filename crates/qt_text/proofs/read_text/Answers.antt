use Rattle.std.proofs.Common.{arith, ap, sym, ◌≡◌, ◌+◌, ◌∙◌, ℕ, List, take, drop}
use Rattle.std.specs.Int.{w16, from_be_bytes}
use Rattle.std.proofs.lemmas.List.{drop-drop}
use Rattle.qt_text.specs.User.{text_language}
use Rattle.qt_text.proofs.read_text.Goals as goal

pub returns : goal.returns
returns c =
    let b = c.args.body.now in
    let at = c.args.at in
    let lang : c.number_at-lang.result ≡ text_language (drop at b) = c.number_at-lang.ensures ∙ ap (λ (x : List ℕ). from_be_bytes w16 (take 2 x)) (sym (drop-drop 2 at b)) in
    let raw : c.in_ok-raw.raw ≡ take c.args.len (drop 4 (drop at b)) = c.in_ok-raw.ensures ∙ ap (λ (n : ℕ). take n (drop (at + 4) b)) (omega arith) ∙ ap (take c.args.len) (sym (drop-drop 4 at b)) in
    ap (λ (n : ℕ). record { lang = n; raw = c.in_ok-raw.raw }) lang ∙ ap (λ (x : List ℕ). record { lang = text_language (drop at b); raw = x }) raw
