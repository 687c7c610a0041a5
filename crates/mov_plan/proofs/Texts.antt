-- Whether a body is texts, one after the other.
use Rattle.std.proofs.Common.{◌≡◌, ◌∙◌, ℕ, ◌+◌, ◌≤◌, ◌<◌, Bool, cond, List, length, Some, None, sym, ap, arith}
use Rattle.std.proofs.lemmas.Bool.{le-ltb, lt-ltb}
use Rattle.qt_text.specs.Texts.{text_len_of}
use Rattle.qt_text.specs.User.{text_size}

-- the text at the front passes the end
pub cut_none : (b : List ℕ) (n : ℕ) → n ≡ text_size b → length b < 4 + n → None ≡ text_len_of b
cut_none b n is lt = sym (ap (λ (t : Bool). cond t None (Some (text_size b))) (lt-ltb (length b) (4 + text_size b) (omega (arith, is, lt))))

-- it is there
pub whole_some : (b : List ℕ) (n : ℕ) → n ≡ text_size b → 4 + n ≤ length b → Some n ≡ text_len_of b
whole_some b n is le = ap Some is ∙ sym (ap (λ (t : Bool). cond t None (Some (text_size b))) (le-ltb (length b) (4 + text_size b) (omega (arith, is, le))))
