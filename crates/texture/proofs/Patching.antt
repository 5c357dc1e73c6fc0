-- What a patch's check says where it passes. Assumes nothing.
use mathlib.Core.Bool.{true, false}
use mathlib.Core.Path.{◌≡◌, refl, sym, ap, ◌∙◌}
use mathlib.Core.List.{List}
use Prim.Native.Nat.{ℕ, ◌+◌, ◌*◌, ◌≤◌, ◌<◌}
use native.Mathlib.Nat.{mul_assoc}
use native.Mathlib.Omega.{arith}
use lib.Dec.{ltb, eqb}
use lib.ListN.{length}
use borrow.Author.Tests.{ltb-false, le-ltb}
use Rattle.lists.proofs.Choice.{yes, no, was_true, was_false}
use Rattle.levels.specs.declared.MipLevel.{MipLevel}
use Rattle.levels.specs.declared.Texture.{Texture}
use Rattle.levels.specs.Levels.{level_of, valid_of}
use Rattle.texture.specs.Patch.{rectangle_check, patch_check, patch_store, Patched, patched, settle_patch, patch_of}

pub record RectangleSound (m : MipLevel) (x y w h len : ℕ) : Type 0 where
  pub right : x + w ≤ m.width
  pub bottom : y + h ≤ m.height
  pub bytes : h * (w * 4) ≤ len

pub rectangle_sound : (m : MipLevel) (x y w h len : ℕ) → rectangle_check m x y w h len ≡ 0 → RectangleSound m x y w h len
unfolding rectangle_check
rectangle_sound m x y w h len e =
    let f = was_false (ltb m.width (x + w)) e (λ z. omega arith) in
    let g = was_false (ltb m.height (y + h)) f.1 (λ z. omega arith) in
    let i = was_false (ltb len (h * w * 4)) g.1 (λ z. omega arith) in
    record {
      right = ltb-false m.width (x + w) f.0;
      bottom = ltb-false m.height (y + h) g.0;
      bytes = rw (mul_assoc h w 4) at (ltb-false len (h * w * 4) i.0);
    }

pub record PatchSound (n : ℕ) (t : Texture) (k x y w h len : ℕ) : Type 0 where
  pub valid : valid_of n t ≡ true
  pub level_in : k < 11
  pub kept : (level_of t k).present ≡ true
  pub right : x + w ≤ (level_of t k).width
  pub bottom : y + h ≤ (level_of t k).height
  pub bytes : h * (w * 4) ≤ len

-- what the checks have shown where they answer 0
pub patch_sound : (n : ℕ) (t : Texture) (k x y w h len : ℕ) → patch_check n t k x y w h len ≡ 0 → PatchSound n t k x y w h len
unfolding patch_check
patch_sound n t k x y w h len e =
    let a = was_true (valid_of n t) e (λ z. omega arith) in
    let b = was_false (ltb 10 k) a.1 (λ z. omega arith) in
    let d = was_true (level_of t k).present b.1 (λ z. omega arith) in
    let r = rectangle_sound (level_of t k) x y w h len d.1 in
    record {
      valid = a.0;
      level_in = omega (arith, ltb-false 10 k b.0);
      kept = d.0;
      right = r.right;
      bottom = r.bottom;
      bytes = r.bytes;
    }

module _ (n : ℕ) (s s' : List ℕ) where
  pub patch_done : n ≡ 0 → settle_patch n s s' ≡ patched 0 s'
  unfolding settle_patch
  patch_done e = rw e

  pub patch_refused : eqb n 0 ≡ false → settle_patch n s s' ≡ patched n s
  unfolding settle_patch
  patch_refused e = rw e

-- what is put into level k is what the call puts there
pub patch_within : (s : List ℕ) (t : Texture) (k x y w h : ℕ) (p : List ℕ) → valid_of (length s) t ≡ true → k ≤ 10
    → (m : MipLevel) → m ≡ level_of t k → m.present ≡ true
    → (o : Patched) → o ≡ settle_patch (rectangle_check m x y w h (length p)) s (patch_store m x y w h p s) → o ≡ patch_of s t k x y w h p
unfolding patch_of patch_check
patch_within s t k x y w h p v g m e q o f =
    let kept : (level_of t k).present ≡ true = ap (λ (l : MipLevel). l.present) (sym e) ∙ q in
    f
    ∙ ap (λ (l : MipLevel). settle_patch (rectangle_check l x y w h (length p)) s (patch_store l x y w h p s)) e
    ∙ ap (λ (n : ℕ). settle_patch n s (patch_store (level_of t k) x y w h p s)) (yes _ v (no _ (le-ltb 10 k g) (yes _ kept refl)))
