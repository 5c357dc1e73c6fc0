-- The walk over blocks writes each texel of the image once and drops the others, whatever the block decoder. Assumes nothing.
use mathlib.Core.Path.{◌≡◌, refl, sym, ap, ◌∙◌}
use mathlib.Core.List.{List}
use Prim.Native.Nat.{ℕ, zero, suc, ◌+◌, ◌*◌, ◌/◌, ◌%◌, ◌≤◌, ◌<◌}
use native.Mathlib.Nat.{suc-mul, zero-mul, add-zero, zero-add, mul_assoc, mul-le-mul_right}
use native.Mathlib.Decide.{dec_lt}
use native.Mathlib.Omega.{arith}
use borrow.Author.Tests.{le-leb, lt-leb}
use lib.Arith.{digits_lt, digits_div, digits_mod}
use lib.ListN.{length, take, drop}
use lib.Seq.{paste, length-paste}
use Rattle.lists.specs.Lists.{iter}
use Rattle.blocks.specs.declared.Block.{Block}
use Rattle.blocks.specs.declared.Block.TheVariants.{Dxt1Rgb, Dxt1Rgba, Dxt3, Dxt5, AtcRgb, AtcExplicit, AtcInterpolated}
use Rattle.blocks.specs.Blocks.{block_texel, block_bytes}
use Rattle.lists.proofs.Cells.{cell_same, cell_other}
use Rattle.texels.proofs.Images.{image_of_texels}
use Rattle.block_images.specs.Walk.{blocks_over, texel_in_blocks, block_image, put_texel, put_nth, put_block, put_row, put_rows}

-- n steps that each take a property from one number to the next c above
iter_steps : {S : Type 0} (P : ℕ → S → Type 0) (f : ℕ → S → S) (m c n : ℕ)
    → ((k : ℕ) (s : S) → k < n → P (m + k * c) s → P (m + (k * c + c)) (f k s)) → (s : S) → P m s → P (m + n * c) (iter n f s)
unfolding iter
iter_steps P f m c zero h s p = rw (zero-mul, add-zero) p
iter_steps P f m c (suc n) h s p =
    rw suc-mul (h n (iter n f s) (omega arith) (iter_steps P f m c n (λ k t l q. h k t (omega arith) q) s p))

equal : (a b : ℕ) → Dec (a < b) → Dec (b < a) → Dec (a ≡ b)
equal a b (yes h) k = no (λ e. omega arith)
equal a b (no h) (yes k) = no (λ e. omega arith)
equal a b (no h) (no k) = yes (omega arith)

-- when the walk comes to (x, y)
abbrev turn : ℕ → ℕ → ℕ → ℕ
turn bw x y = (y / 4 * bw + x / 4) * 16 + (y % 4 * 4 + x % 4)

unique : (bw x y bx by i : ℕ) → x / 4 < bw → bx < bw → i < 16 → turn bw x y ≡ (by * bw + bx) * 16 + i
    → (x ≡ bx * 4 + i % 4) × (y ≡ by * 4 + i / 4)
unique bw x y bx by i hx hb hi e =
    let blocks : y / 4 * bw + x / 4 ≡ by * bw + bx = omega arith in
    let nth : y % 4 * 4 + x % 4 ≡ i = omega arith in
    let row : y / 4 ≡ by = sym (digits_div (y / 4) hx) ∙ ap (λ n. n / bw) blocks ∙ digits_div by hb in
    let col : x / 4 ≡ bx = sym (digits_mod (y / 4) hx) ∙ ap (λ n. n % bw) blocks ∙ digits_mod by hb in
    (omega arith, omega arith)

same_place : (w x y a b : ℕ) → x < w → a < w → y * w + x ≡ b * w + a → (x ≡ a) × (y ≡ b)
same_place w x y a b hx ha e =
    (sym (digits_mod y hx) ∙ ap (λ n. n % w) e ∙ digits_mod b ha, sym (digits_div y hx) ∙ ap (λ n. n / w) e ∙ digits_div b ha)

module _ (texel : List ℕ → ℕ → ℕ → List ℕ) (four : (s : List ℕ) (at i : ℕ) → length (texel s at i) ≡ 4) (bytes w h : ℕ) (s : List ℕ) where
  -- the texels that the walk comes to before its n-th stand in the output
  record Shows (n : ℕ) (out : List ℕ) : Type 0 where
    size : length out ≡ h * w * 4
    texels : (x y : ℕ) → x < w → y < h → turn (blocks_over w) x y < n
        → take 4 (drop ((y * w + x) * 4) out) ≡ texel_in_blocks texel bytes w s x y

  value : (bx by i : ℕ) → i < 16
      → texel_in_blocks texel bytes w s (bx * 4 + i % 4) (by * 4 + i / 4) ≡ texel s ((by * blocks_over w + bx) * bytes) i
  unfolding texel_in_blocks
  value bx by i hi =
      let a : (bx * 4 + i % 4) / 4 ≡ bx = omega arith in
      let b : (by * 4 + i / 4) / 4 ≡ by = omega arith in
      let n : (by * 4 + i / 4) % 4 * 4 + (bx * 4 + i % 4) % 4 ≡ i = omega arith in
      rw (a, b, n)

  module _ (bx by i : ℕ) (hb : bx < blocks_over w) (hi : i < 16) (out : List ℕ) (p : Shows ((by * blocks_over w + bx) * 16 + i) out) where
    -- a texel that hangs over the edge is in no row or column of the image
    dropped : (bx * 4 + i % 4 < w → by * 4 + i / 4 < h → ⊥) → Shows ((by * blocks_over w + bx) * 16 + i + 1) out
    dropped n = record {
      size = p.size;
      texels = λ x y hx hy t. p.texels x y hx hy
          (before x y hx hy t (dec_lt (turn (blocks_over w) x y) ((by * blocks_over w + bx) * 16 + i)));
    }
      where
        before : (x y : ℕ) → x < w → y < h → turn (blocks_over w) x y < (by * blocks_over w + bx) * 16 + i + 1
            → Dec (turn (blocks_over w) x y < (by * blocks_over w + bx) * 16 + i) → turn (blocks_over w) x y < (by * blocks_over w + bx) * 16 + i
        before x y hx hy t (yes l) = l
        before x y hx hy t (no l) =
            let u = unique (blocks_over w) x y bx by i (omega arith) hb hi (omega arith) in
            absurd (n (omega arith) (omega arith))

    -- one that does not is written at its place, and at no other's
    written : bx * 4 + i % 4 < w → by * 4 + i / 4 < h
        → Shows ((by * blocks_over w + bx) * 16 + i + 1)
        (paste out (((by * 4 + i / 4) * w + (bx * 4 + i % 4)) * 4) (texel s ((by * blocks_over w + bx) * bytes) i) 4)
    written hx₀ hy₀ =
        let c = texel s ((by * blocks_over w + bx) * bytes) i in
        let at = (by * 4 + i / 4) * w + (bx * 4 + i % 4) in
        let fits : at * 4 + 4 ≤ length out = rw p.size (omega (arith, digits_lt hy₀ hx₀)) in
        record {
          size = length-paste out (at * 4) c 4 fits (rw (four s ((by * blocks_over w + bx) * bytes) i) (omega arith)) ∙ p.size;
          texels = λ x y hx hy t. cell fits x y hx hy t
              (equal (y * w + x) at (dec_lt (y * w + x) at) (dec_lt at (y * w + x)))
              (dec_lt (turn (blocks_over w) x y) ((by * blocks_over w + bx) * 16 + i));
        }
      where
        cell : ((by * 4 + i / 4) * w + (bx * 4 + i % 4)) * 4 + 4 ≤ length out
            → (x y : ℕ) → x < w → y < h → turn (blocks_over w) x y < (by * blocks_over w + bx) * 16 + i + 1
            → Dec (y * w + x ≡ (by * 4 + i / 4) * w + (bx * 4 + i % 4))
            → Dec (turn (blocks_over w) x y < (by * blocks_over w + bx) * 16 + i)
            → take 4 (drop ((y * w + x) * 4) (paste out (((by * 4 + i / 4) * w + (bx * 4 + i % 4)) * 4) (texel s ((by * blocks_over w + bx) * bytes) i) 4))
            ≡ texel_in_blocks texel bytes w s x y
        cell fits x y hx hy t (yes e) d =
            let c = texel s ((by * blocks_over w + bx) * bytes) i in
            let at = (by * 4 + i / 4) * w + (bx * 4 + i % 4) in
            let u = same_place w x y (bx * 4 + i % 4) (by * 4 + i / 4) hx hx₀ e in
            rw (e, cell_same 4 out c at (four s ((by * blocks_over w + bx) * bytes) i) fits, u.0, u.1) (sym (value bx by i hi))
        cell fits x y hx hy t (no e) (yes l) =
            cell_other 4 out (texel s ((by * blocks_over w + bx) * bytes) i) ((by * 4 + i / 4) * w + (bx * 4 + i % 4)) (four s ((by * blocks_over w + bx) * bytes) i) fits (y * w + x) e
            ∙ p.texels x y hx hy l
        cell fits x y hx hy t (no e) (no l) =
            let u = unique (blocks_over w) x y bx by i (omega arith) hb hi (omega arith) in
            absurd (e (rw (u.0, u.1)))

    put : Dec (bx * 4 + i % 4 < w) → Dec (by * 4 + i / 4 < h)
        → Shows ((by * blocks_over w + bx) * 16 + i + 1) (put_nth w h (texel s ((by * blocks_over w + bx) * bytes)) bx by i out)
    unfolding put_nth put_texel
    put (no a) b = rw (le-leb w (bx * 4 + i % 4) (omega arith)) (dropped (λ m n. a m))
    put (yes a) (no b) =
        rw (lt-leb w (bx * 4 + i % 4) a, le-leb h (by * 4 + i / 4) (omega arith)) (dropped (λ m n. b n))
    put (yes a) (yes b) = rw (lt-leb w (bx * 4 + i % 4) a, lt-leb h (by * 4 + i / 4) b) (written a b)

  shows_block : (bx by : ℕ) → bx < blocks_over w → (out : List ℕ) → Shows ((by * blocks_over w + bx) * 16) out
      → Shows ((by * blocks_over w + bx) * 16 + 16 * 1) (put_block w h (texel s ((by * blocks_over w + bx) * bytes)) bx by out)
  unfolding put_block
  shows_block bx by hb out p =
      iter_steps Shows (put_nth w h (texel s ((by * blocks_over w + bx) * bytes)) bx by) ((by * blocks_over w + bx) * 16) 1 16
      (λ i o hi q.
      let one : (by * blocks_over w + bx) * 16 + i * 1 ≡ (by * blocks_over w + bx) * 16 + i = omega arith in
      let next : (by * blocks_over w + bx) * 16 + (i * 1 + 1) ≡ (by * blocks_over w + bx) * 16 + i + 1 = omega arith in
      rw next (put bx by i hb hi o (rw one at q) (dec_lt (bx * 4 + i % 4) w) (dec_lt (by * 4 + i / 4) h)))
      out p

  shows_row : (by : ℕ) (out : List ℕ) → Shows (by * (blocks_over w * 16)) out
      → Shows (by * (blocks_over w * 16) + blocks_over w * 16) (put_row texel bytes w h s by out)
  unfolding put_row
  shows_row by out p =
      iter_steps Shows (λ bx. put_block w h (texel s ((by * blocks_over w + bx) * bytes)) bx by) (by * (blocks_over w * 16)) 16 (blocks_over w)
      (λ bx o hb q.
      let flat : by * blocks_over w * 16 ≡ by * (blocks_over w * 16) = mul_assoc by (blocks_over w) 16 in
      let here : by * (blocks_over w * 16) + bx * 16 ≡ (by * blocks_over w + bx) * 16 = omega arith in
      let next : by * (blocks_over w * 16) + (bx * 16 + 16) ≡ (by * blocks_over w + bx) * 16 + 16 * 1 = omega arith in
      rw next (shows_block bx by hb o (rw here at q)))
      out p

  shows_rows : (out : List ℕ) → Shows 0 out → Shows (0 + blocks_over h * (blocks_over w * 16)) (put_rows texel bytes w h s out)
  unfolding put_rows
  shows_rows out p =
      iter_steps Shows (put_row texel bytes w h s) 0 (blocks_over w * 16) (blocks_over h)
      (λ by o hb q.
      let here : 0 + by * (blocks_over w * 16) ≡ by * (blocks_over w * 16) = zero-add (by * (blocks_over w * 16)) in
      let next : 0 + (by * (blocks_over w * 16) + blocks_over w * 16) ≡ by * (blocks_over w * 16) + blocks_over w * 16 = zero-add (by * (blocks_over w * 16) + blocks_over w * 16) in
      rw next (shows_row by o (rw here at q)))
      out p

  -- the walk leaves the image
  pub walk_image : (out : List ℕ) → length out ≡ h * w * 4 → put_rows texel bytes w h s out ≡ block_image texel bytes w h s
  unfolding block_image
  walk_image out e =
      let done = shows_rows out (record { size = e; texels = λ x y hx hy t. absurd (omega arith) }) in
      image_of_texels (texel_in_blocks texel bytes w s) w h (put_rows texel bytes w h s out) done.size
      (λ x y hx hy.
      let m : y / 4 * blocks_over w + x / 4 < blocks_over h * blocks_over w = digits_lt (omega arith) (omega arith) in
      let f : blocks_over h * blocks_over w * 16 ≡ blocks_over h * (blocks_over w * 16) = mul_assoc (blocks_over h) (blocks_over w) 16 in
      done.texels x y hx hy (omega arith))

-- a texel of the image is stored, and any other is dropped
module _ (w h : ℕ) (texel : ℕ → List ℕ) (bx by i : ℕ) (out : List ℕ) where
  pub put_inside : bx * 4 + i % 4 < w → by * 4 + i / 4 < h
      → put_nth w h texel bx by i out ≡ paste out (((by * 4 + i / 4) * w + (bx * 4 + i % 4)) * 4) (texel i) 4
  unfolding put_nth put_texel
  put_inside x y = rw (lt-leb w (bx * 4 + i % 4) x, lt-leb h (by * 4 + i / 4) y)

  pub put_outside : (bx * 4 + i % 4 < w → by * 4 + i / 4 < h → ⊥) → put_nth w h texel bx by i out ≡ out
  unfolding put_nth put_texel
  put_outside n = by_side n (dec_lt (bx * 4 + i % 4) w)
    where
      by_side : (bx * 4 + i % 4 < w → by * 4 + i / 4 < h → ⊥) → Dec (bx * 4 + i % 4 < w) → put_nth w h texel bx by i out ≡ out
      by_side n (no a) = rw (le-leb w (bx * 4 + i % 4) (omega arith))
      by_side n (yes a) =
          let b : h ≤ by * 4 + i / 4 = omega (arith, n a) in
          rw (lt-leb w (bx * 4 + i % 4) a, le-leb h (by * 4 + i / 4) b)

pub block_four : (b : Block) (s : List ℕ) (at i : ℕ) → length (block_texel b s at i) ≡ 4
unfolding block_texel
block_four b s at i = refl

pub few_bytes : (b : Block) → block_bytes b ≤ 16
few_bytes Dxt1Rgb = omega arith
few_bytes Dxt1Rgba = omega arith
few_bytes Dxt3 = omega arith
few_bytes Dxt5 = omega arith
few_bytes AtcRgb = omega arith
few_bytes AtcExplicit = omega arith
few_bytes AtcInterpolated = omega arith

-- a block of the image is one of its bytes
pub block_room : {y h x w : ℕ} (bytes : ℕ) → y < h → x < w → (y * w + x) * bytes + bytes ≤ h * w * bytes
block_room {y} {h} {x} {w} bytes p q =
    omega (arith, suc-mul (y * w + x) bytes, mul-le-mul_right bytes (digits_lt p q))
