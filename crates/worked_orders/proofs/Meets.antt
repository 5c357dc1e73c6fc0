-- Orders that meet the premises: one of calls that leave other colours in another order, so the premises of one list are not enough; and
-- two that leave different stores. Assumes nothing.
use mathlib.Core.Path.{◌≡◌, refl, ap}
use mathlib.Core.Bool.{cond}
use mathlib.Core.Option.{Option}
use mathlib.Core.List.{List, [], ◌∷◌}
use Prim.Native.Nat.{ℕ}
use native.Mathlib.Omega.{arith}
use lib.Dec.{eqb}
use lib.ListN.{get_or}
use lib.Ieee.{Float}
use Rattle.floats.specs.Num.{zero32, one32}
use Rattle.levels.specs.declared.Texture.{Texture}
use Rattle.levels.specs.declared.Filter.TheVariants.{Linear}
use Rattle.isolation.specs.Machine.{Guest, next, nobody, mark, moments}
use Rattle.frames.specs.State.{Place}
use Rattle.guests.specs.Calls.{Shared}
use Rattle.worked_guests.proofs.Uses.{All}
use Rattle.worked_draws.specs.Worked.{M, start, one_texel}
use Rattle.worked_draws.proofs.Opened.{opened}
use Rattle.worked_draws.proofs.States.{state}
use Rattle.worked_draws.proofs.Worked.{own_name, then, none, premises}
use Rattle.worked_draws.proofs.Good.{Good, made, good_define, good_clear_depth, good_draw}
use Rattle.worked_orders.specs.Differ.{clears, defines, draws, covers, covered_first, FirstMeets, StoreMayDiffer}
use Rattle.worked_orders.proofs.Differ.{two}

-- the states between
abbrev covered : ℕ → Texture
covered n = cond (eqb n 1) (one_texel 0 Linear) (start.textures n)

abbrev both : ℕ → Texture
both n = cond (eqb n 0) (one_texel 0 Linear) (covered n)

abbrev after : List Float → List ℕ → (ℕ → Texture) → Shared
after ds st f = state start.colors ds st f

abbrev t1 : Shared
t1 = after (zero32 ∷ zero32 ∷ zero32 ∷ one32 ∷ []) (9 ∷ 9 ∷ 9 ∷ 9 ∷ 0 ∷ 0 ∷ 0 ∷ 0 ∷ 50 ∷ 60 ∷ 70 ∷ 80 ∷ []) covered

abbrev t2 : Shared
t2 = after (one32 ∷ zero32 ∷ zero32 ∷ one32 ∷ []) (9 ∷ 9 ∷ 9 ∷ 9 ∷ 0 ∷ 0 ∷ 0 ∷ 0 ∷ 50 ∷ 60 ∷ 70 ∷ 80 ∷ []) covered

abbrev t3 : Shared
t3 = after (one32 ∷ zero32 ∷ zero32 ∷ one32 ∷ []) (5 ∷ 6 ∷ 7 ∷ 8 ∷ 0 ∷ 0 ∷ 0 ∷ 0 ∷ 50 ∷ 60 ∷ 70 ∷ 80 ∷ []) both

covers_leaves : next M covers.call start ≡ t1
unfolding opened
covers_leaves = refl

clears_leaves : next M clears.call t1 ≡ t2
unfolding opened
clears_leaves = refl

defines_leaves : next M defines.call t2 ≡ t3
unfolding opened
defines_leaves = refl

abbrev v1 : Place → Option Guest
v1 = mark M covers start (nobody M)

abbrev v2 : Place → Option Guest
v2 = mark M clears t1 v1

abbrev v3 : Place → Option Guest
v3 = mark M defines t2 v2

good_draws : Good (made 0 t3 v3 draws.call)
unfolding opened
good_draws = good_draw 0 t3 v3 _ (λ p x. x) (own_name 0) refl

all_good : All Good (moments M covered_first start (nobody M))
all_good =
    (then covers _ start t1 (nobody M) covers_leaves (good_define 1 start (nobody M) 0 1 1 0 _ (omega arith))
    (then clears _ t1 t2 v1 clears_leaves (good_clear_depth 0 t1 v1 _ _ (λ p x. x))
    (then defines _ t2 t3 v2 defines_leaves (good_define 0 t2 v2 0 1 1 0 _ (omega arith))
    (then draws _ t3 _ v3 refl good_draws
    (none _ _)))))

pub first_meets : FirstMeets
first_meets = premises start.colors start.depths start.store start.textures covered_first all_good

-- ---- levels of two guests over the same bytes

define_good : (s : Shared) (w : Place → Option Guest) → Good (made 0 s w defines.call)
define_good s w = good_define 0 s w 0 1 1 0 _ (omega arith)

cover_good : (s : Shared) (w : Place → Option Guest) → Good (made 1 s w covers.call)
cover_good s w = good_define 1 s w 0 1 1 0 _ (omega arith)

defines_first : All Good (moments M (defines ∷ covers ∷ []) start (nobody M))
unfolding moments
defines_first = (define_good _ _, (cover_good _ _, tt))

covers_first : All Good (moments M (covers ∷ defines ∷ []) start (nobody M))
unfolding moments
covers_first = (cover_good _ _, (define_good _ _, tt))

pub store_may_differ : StoreMayDiffer
unfolding opened
store_may_differ = record {
  same = two (defines ∷ covers ∷ []) (covers ∷ defines ∷ []) refl refl refl refl;
  one = premises start.colors start.depths start.store start.textures (defines ∷ covers ∷ []) defines_first;
  other = premises start.colors start.depths start.store start.textures (covers ∷ defines ∷ []) covers_first;
  stores = λ e. let z : ◌≡◌ {A = ℕ} 9 5 = ap (λ l. get_or l 0 0) e in omega arith;
}
