-- What a clear checks and leaves.
use Rattle.std.specs.Prelude.{ℕ, ◌+◌, ◌*◌, ◌/◌, ◌%◌, cond, ◌&&◌, List, leb, ltb, eqb, Float, length, get_or, Option}
use Rattle.std.specs.Float.{nan}
use Rattle.lists.specs.Lists.{tab, between}
use Rattle.floats.specs.Num.{bounded_of}
use Rattle.scissor.specs.Scissor.{pixel_in}
use Rattle.scissor.specs.Check.{target_fits, scissor_fits}
use Rattle.settings.specs.declared.ScissorBox.{ScissorBox}

-- Document 01, Clear colour: 1; 2
unfoldable pub clear_color_check : ℕ → ℕ → ℕ → ℕ → Option ScissorBox → ℕ
clear_color_check width height colors depths s = cond (target_fits width height colors depths) (cond (scissor_fits s) 0 2) 1

-- Document 01, Clear depth: 1; 2; 4
unfoldable pub clear_depth_check : ℕ → ℕ → ℕ → ℕ → Float → Option ScissorBox → ℕ
clear_depth_check width height colors depths value s = cond (target_fits width height colors depths) (cond (scissor_fits s) (cond (bounded_of value) 0 4) 2) 1

-- k elements make a pixel: those of a pixel in the box become v 0, .., v (k - 1), all others stay. z stands past a list's end.
unfoldable pub cleared_of : {A : Type 0} → ℕ → (ℕ → A) → A → ℕ → ℕ → Option ScissorBox → List A → List A
cleared_of k v z width height s l = tab (length l) (λ i. cond (pixel_in width height s (i / k)) (v (i % k)) (get_or l i z))

-- the elements from a to e, e left out, become v of their number
unfoldable pub span_of : {A : Type 0} → (ℕ → A) → A → ℕ → ℕ → List A → List A
span_of v z a e l = tab (length l) (λ i. cond (leb a i && ltb i e) (v i) (get_or l i z))

-- raster.rs, clear_color and clear_depth: the columns x0 to x1 of the rows y0 to y1 in turn
unfoldable pub rows_of : {A : Type 0} → ℕ → (ℕ → A) → A → ℕ → ℕ → ℕ → ℕ → ℕ → List A → List A
rows_of k v z width x0 y0 x1 y1 l = between (λ y. span_of v z ((y * width + x0) * k) ((y * width + x1) * k)) y0 y1 l

-- the element at each place of the list, where k elements make a pixel and all pixels are `value`
abbrev pub element_at : {A : Type 0} → ℕ → List A → A → ℕ → A
element_at k value z i = get_or value (i % k) z

-- raster.rs, clear_color: the colours it leaves, refused or done
unfoldable pub clear_color_of : ℕ → ℕ → ℕ → List ℕ → Option ScissorBox → List ℕ → List ℕ
clear_color_of width height depths rgba s colors =
    cond (eqb (clear_color_check width height (length colors) depths s) 0)
    (cleared_of 4 (λ c. get_or rgba c 0) 0 width height s colors)
    colors

-- raster.rs, clear_depth: the depths it leaves, refused or done
unfoldable pub clear_depth_of : ℕ → ℕ → ℕ → Float → Option ScissorBox → List Float → List Float
clear_depth_of width height colors value s depths =
    cond (eqb (clear_depth_check width height colors (length depths) value s) 0)
    (cleared_of 1 (λ c. value) nan width height s depths)
    depths
