use Rattle.std.proofs.Common.{◌≡◌, ◌+◌, List, ℕ, true, false, take, sym, ap, ◌∙◌}
use Rattle.std.specs.List.{list_any}
use Rattle.std.specs.Str.{bytes_eq}
use Rattle.metaedit_top.specs.Words.{Text}
use Rattle.metaedit_top.proofs.BatchParts.{same_here, same_more}
use Rattle.metaedit_top.proofs.batch_words.first_same.Goals as goal

pub returns-then-has_word : goal.returns-then-has_word
returns-then-has_word c =
    let files = c.args.files.now in
    let k = c.loop-k.k in
    let has : list_any (λ word. bytes_eq word c.index-files-k.result) (take k files) ≡ true =
    ap (λ (x : Text). list_any (λ word. bytes_eq word x) (take k files)) (sym c.as_bytes.ensures) ∙ sym c.has_word.ensures ∙ c.if-has_word.true in
    sym (same_here (k + 1) files k c.loop-k-test.true c.index-files-k.result c.index-files-k.is has) ∙ c.loop-k.invariant

pub loop-k-preserved : goal.loop-k-preserved
loop-k-preserved c =
    let files = c.args.files.now in
    let k = c.loop-k.k in
    let has : list_any (λ word. bytes_eq word c.index-files-k.result) (take k files) ≡ false =
    ap (λ (x : Text). list_any (λ word. bytes_eq word x) (take k files)) (sym c.as_bytes.ensures) ∙ sym c.has_word.ensures ∙ c.if-has_word.false in
    sym (same_more (k + 1) files k c.loop-k-test.true c.index-files-k.result c.index-files-k.is has) ∙ c.loop-k.invariant
