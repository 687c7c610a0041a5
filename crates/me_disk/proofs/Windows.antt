-- Bytes that were read ahead.
use Rattle.std.proofs.Common.{◌≡◌, ◌∙◌, ℕ, ◌+◌, ◌-◌, ◌≤◌, List, take, drop, sym, ap, arith}
use Rattle.std.proofs.lemmas.List.{drop-drop, drop-take, take-take}
use Rattle.me_disk.specs.Disk.{Disk}
use Rattle.me_disk.specs.Windows.{IsWindow}
use Rattle.me_disk.specs.declared.window.Window.{Window}

-- a window that holds nothing
pub empty_window : {n : ℕ} (d : Disk) (w : Window n) → w.from ≡ 0 → w.len ≡ 0 → IsWindow d w
empty_window d w from len = record {
  short = omega arith;
  small = omega arith;
  bytes = λ b held. ap (λ (n : ℕ). take n w.bytes) len ∙ sym (ap (λ (n : ℕ). take n (drop w.from b)) len);
}

-- bytes inside the first ones
inside : (i n len : ℕ) (b : List ℕ) → i + n ≤ len → take n (drop i (take len b)) ≡ take n (drop i b)
inside i n len b le =
    let split : len ≡ i + (len - i) = omega arith in
    ap (λ (k : ℕ). take n (drop i (take k b))) split ∙ ap (take n) (drop-take i (len - i) b) ∙ take-take n (len - i) (drop i b) (omega arith)

-- the bytes of a place that it covers
pub seen : (b bytes : List ℕ) (from len at n : ℕ) → from ≤ at → at + n ≤ from + len → take len bytes ≡ take len (drop from b) → take n (drop (at - from) bytes) ≡ take n (drop at b)
seen b bytes from len at n low high e =
    let i = at - from in
    let place : i + from ≡ at = omega arith in
    let place_too : from + i ≡ at = omega arith in
    sym (inside i n len bytes (omega arith))
    ∙ ap (λ (x : List ℕ). take n (drop i x)) e
    ∙ inside i n len (drop from b) (omega arith)
    ∙ ap (take n) (drop-drop i from b)
    ∙ ap (λ (p : ℕ). take n (drop p b)) place_too
