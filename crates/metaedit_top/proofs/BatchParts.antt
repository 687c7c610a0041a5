-- The words of a batch, read one by one.
use Rattle.std.proofs.Common.{◌≡◌, ℕ, ◌+◌, ◌<◌, ◌≤◌, List, [], ◌∷◌, ◌++◌, length, take, drop, get_or, Bool, true, false, Option, Some, None, sym, ap, ◌∙◌}
use Rattle.std.specs.Prelude.{if◌then◌else◌}
use Rattle.std.specs.List.{list_any}
use Rattle.std.specs.Str.{bytes_eq}
use Rattle.std.proofs.lemmas.List.{at_drop_more, take_more}
use Rattle.metaedit_top.specs.BatchWords.{same_from}
use Rattle.metaedit_top.specs.Words.{Text}

module _ (n : ℕ) (files : List Text) (k : ℕ) (low : k < length files) (w : Text) (w_is : w ≡ get_or files k w) (t : Bool) (has : list_any (λ word. bytes_eq word w) (take k files) ≡ t) where
  here : list_any (λ word. bytes_eq word (get_or files k w)) (take k files) ≡ t
  here = ap (λ (x : Text). list_any (λ word. bytes_eq word x) (take k files)) (sym w_is) ∙ has

  pub next_file : same_from n (take k files) (drop k files) ≡ (if t then Some n else same_from (n + 1) (take k files ++ get_or files k w ∷ []) (drop (k + 1) files))
  unfolding here
  next_file =
      ap (same_from n (take k files)) (at_drop_more (λ (ws : List Text). ws) files k w low)
      ∙ ap (λ (u : Bool). if u then Some n else same_from (n + 1) (take k files ++ get_or files k w ∷ []) (drop (k + 1) files)) here

-- a file that an earlier one names
pub same_here : (n : ℕ) (files : List Text) (k : ℕ) → k < length files → (w : Text) → w ≡ get_or files k w → list_any (λ word. bytes_eq word w) (take k files) ≡ true
    → same_from n (take k files) (drop k files) ≡ Some n
same_here n files k low w w_is has = next_file n files k low w w_is true has

-- a file that none before it names
pub same_more : (n : ℕ) (files : List Text) (k : ℕ) → k < length files → (w : Text) → w ≡ get_or files k w → list_any (λ word. bytes_eq word w) (take k files) ≡ false
    → same_from n (take k files) (drop k files) ≡ same_from (n + 1) (take (k + 1) files) (drop (k + 1) files)
same_more n files k low w w_is has =
    next_file n files k low w w_is false has
    ∙ ap (λ (seen : List Text). same_from (n + 1) seen (drop (k + 1) files)) (sym (take_more files k w low))
