-- The premises can be met with draws in the list: the worked list meets them, and so the claim holds of it. Assumes nothing.
use mathlib.Core.Path.{◌≡◌, refl, sym, ap₂, ◌∙◌, subst}
use mathlib.Core.Logic.{◌⊎◌, inl, inr}
use mathlib.Core.Bool.{true}
use mathlib.Core.Option.{Option}
use mathlib.Core.List.{List, [], ◌∷◌}
use Prim.Native.Nat.{ℕ}
use native.Mathlib.Omega.{arith}
use lib.Ieee.{Float}
use Rattle.std.proofs.lemmas.Bool.{false≢true}
use Rattle.floats.specs.Num.{zero32, one32}
use Rattle.levels.specs.declared.Texture.{Texture}
use Rattle.isolation.specs.Machine.{Guest, Turn, next, run, nobody, mark, moments}
use Rattle.frames.specs.State.{Place, pixel_at}
use Rattle.frames.specs.Windows.{TexturesApart, During}
use Rattle.guests.specs.Calls.{Shared}
use Rattle.guests.specs.Guests.{meaning, InBox, InWindow, bad_target, GuestPremises, GuestClaim}
use Rattle.guest_draws.specs.Draw.{drawing, scissor_of}
use Rattle.guest_draws.specs.EveryCall.{GuestCall}
use Rattle.guest_draws.proofs.Demand3.{demand_3}
use Rattle.worked_guests.specs.Worked.{window, pixel_of}
use Rattle.worked_guests.proofs.Worked.{disjoint, taller, last_alone, in_0, in_1, in_2}
use Rattle.worked_guests.proofs.Uses.{All, each}
use Rattle.worked_draws.specs.Worked.{M, Comes, start, calls, defines0, defines1, clears0, clears1, draws0, defines2, hidden0, shares1, shares0, patches1, sets1, draws1, paints2, renews2, bad_color, bad_depth, bad_stage, bad_vertex, bad_define, bad_patch, bad_repatch, bad_set, torn, spills1, on_torn, Claimed}
use Rattle.worked_draws.proofs.Opened.{opened}
use Rattle.worked_draws.proofs.Good.{Then, Good, made, good_define, good_patch, good_set, good_new, good_clear_color, good_clear_depth, good_draw, good_refused}
use Rattle.worked_draws.proofs.States.{state, s1, s2, s3, s4, s5, s6, s8, s9, s10, s11, s12, s13, s14, s15, s16, s17, w0, w1, w2, w3, w4, w5, w6, w7, w8, w9, w10, w11, w12, w13, w14, w15, w16, w17, w18, w19, w20, w21, defines0_leaves, defines1_leaves, clears0_leaves, clears1_leaves, draws0_leaves, defines2_leaves, hidden0_leaves, shares1_leaves, shares0_leaves, patches1_leaves, sets1_leaves, draws1_leaves, paints2_leaves, renews2_leaves, bad_color_leaves, bad_depth_leaves, bad_stage_leaves, bad_vertex_leaves}

-- ---- what is answered, the bills, the colours in the end

pub comes : Comes
unfolding opened
comes = record { answers_0 = refl; answers_1 = refl; answers_2 = refl; bill_0 = refl; bill_1 = refl; bill_2 = refl; colours = refl; depths = refl }

-- ---- the premises

-- a list of one name
only : (k n : ℕ) → (n ≡ k) ⊎ ⊥ → n ≡ k
only k n (inl e) = e
only k n (inr z) = absurd z

pub own_name : (g n : ℕ) → (n ≡ g) ⊎ ⊥ → (g ≡ n) ⊎ (n ≡ 3)
own_name g n i = inl (sym (only g n i))

good_defines0 : Good (made 0 start w0 defines0.call)
good_defines0 = good_define 0 start w0 0 1 1 0 _ (omega arith)

good_defines1 : Good (made 1 s1 w1 defines1.call)
good_defines1 = good_define 1 s1 w1 0 1 1 4 _ (omega arith)

good_clears0 : Good (made 0 s2 w2 clears0.call)
good_clears0 = good_clear_depth 0 s2 w2 _ _ (λ p x. x)

good_clears1 : Good (made 1 s3 w3 clears1.call)
good_clears1 = good_clear_depth 1 s3 w3 _ _ (λ p x. taller 1 1 9 p (omega arith) x)

good_draws0 : Good (made 0 s4 w4 draws0.call)
unfolding opened
good_draws0 = good_draw 0 s4 w4 _ (λ p x. x) (own_name 0) refl

good_defines2 : Good (made 2 s5 w5 defines2.call)
good_defines2 = good_define 2 s5 w5 0 1 1 0 _ (omega arith)

good_hidden0 : Good (made 0 s6 w6 hidden0.call)
unfolding opened
good_hidden0 = good_draw 0 s6 w6 _ (λ p x. x) (own_name 0) refl

good_shares1 : Good (made 1 s6 w7 shares1.call)
unfolding opened
good_shares1 = good_draw 1 s6 w7 _ (λ p x. taller 1 1 9 p (omega arith) x) (λ n i. inr (only 3 n i)) refl

good_shares0 : Good (made 0 s8 w8 shares0.call)
unfolding opened
good_shares0 = good_draw 0 s8 w8 _ (λ p x. x) (λ n i. inr (only 3 n i)) refl

good_patches1 : Good (made 1 s9 w9 patches1.call)
good_patches1 = good_patch 1 s9 w9 0 0 0 1 1 _ (omega arith)

good_sets1 : Good (made 1 s10 w10 sets1.call)
good_sets1 = good_set 1 s10 w10 _ _ (omega arith)

good_draws1 : Good (made 1 s11 w11 draws1.call)
unfolding opened
good_draws1 = good_draw 1 s11 w11 _ (λ p x. taller 1 1 9 p (omega arith) x) (own_name 1) refl

good_paints2 : Good (made 2 s12 w12 paints2.call)
good_paints2 = good_clear_color 2 s12 w12 _ _ (λ p x. taller 2 1 9 p (omega arith) x)

good_renews2 : Good (made 2 s13 w13 renews2.call)
good_renews2 = good_new 2 s13 w13 (omega arith)

good_bad_color : Good (made 1 s14 w14 bad_color.call)
unfolding opened
good_bad_color = good_refused 1 s14 w14 bad_color.call refl (λ n k. absurd (false≢true k)) (λ n r. absurd r) (λ b r. absurd r)

good_bad_depth : Good (made 0 s14 w15 bad_depth.call)
unfolding opened
good_bad_depth = good_refused 0 s14 w15 bad_depth.call refl (λ n k. absurd (false≢true k)) (λ n r. absurd r) (λ b r. absurd r)

good_bad_stage : Good (made 2 s14 w16 bad_stage.call)
unfolding opened
good_bad_stage = good_refused 2 s14 w16 bad_stage.call refl (λ n k. absurd (false≢true k)) (λ n r. absurd (false≢true r.0)) (λ b r. absurd (false≢true r.0.0))

good_bad_vertex : Good (made 2 s14 w17 bad_vertex.call)
unfolding opened
good_bad_vertex = good_refused 2 s14 w17 bad_vertex.call refl (λ n k. absurd (false≢true k)) (λ n r. only 3 n r.1) (λ b r. absurd (false≢true r.0.1))

good_bad_define : Good (made 1 s14 w18 bad_define.call)
unfolding opened
good_bad_define = good_refused 1 s14 w18 bad_define.call refl (λ n k. absurd (false≢true k)) (λ n r. absurd (false≢true r.1)) (λ b r. absurd r)

good_bad_patch : Good (made 0 s15 w19 bad_patch.call)
unfolding opened
good_bad_patch = good_refused 0 s15 w19 bad_patch.call refl (λ n k. absurd (false≢true k)) (λ n r. r) (λ b r. absurd r)

good_bad_repatch : Good (made 2 s16 w20 bad_repatch.call)
good_bad_repatch = good_patch 2 s16 w20 0 0 0 1 1 _ (omega arith)

good_bad_set : Good (made 2 s17 w21 bad_set.call)
unfolding opened
good_bad_set = good_refused 2 s17 w21 bad_set.call refl (λ n k. absurd (false≢true k)) (λ n r. absurd (false≢true r.1)) (λ b r. absurd r)

-- one call after the other
pub then : (m : Turn GuestCall) (ms : List (Turn GuestCall)) (s t : Shared) (w : Place → Option Guest) → next M m.call s ≡ t → Good (made m.who s w m.call)
    → All Good (moments M ms t (mark M m s w)) → All Good (moments M (m ∷ ms) s w)
unfolding moments
then m ms s t w e g r = (g, subst (λ (u : Shared). All Good (moments M ms u (mark M m s w))) (sym e) r)

pub none : (s : Shared) (w : Place → Option Guest) → All Good (moments M [] s w)
unfolding moments
none s w = tt

all_good : All Good (moments M calls start (nobody M))
all_good =
    (then defines0 _ start s1 w0 defines0_leaves good_defines0
    (then defines1 _ s1 s2 w1 defines1_leaves good_defines1
    (then clears0 _ s2 s3 w2 clears0_leaves good_clears0
    (then clears1 _ s3 s4 w3 clears1_leaves good_clears1
    (then draws0 _ s4 s5 w4 draws0_leaves good_draws0
    (then defines2 _ s5 s6 w5 defines2_leaves good_defines2
    (then hidden0 _ s6 s6 w6 hidden0_leaves good_hidden0
    (then shares1 _ s6 s8 w7 shares1_leaves good_shares1
    (then shares0 _ s8 s9 w8 shares0_leaves good_shares0
    (then patches1 _ s9 s10 w9 patches1_leaves good_patches1
    (then sets1 _ s10 s11 w10 sets1_leaves good_sets1
    (then draws1 _ s11 s12 w11 draws1_leaves good_draws1
    (then paints2 _ s12 s13 w12 paints2_leaves good_paints2
    (then renews2 _ s13 s14 w13 renews2_leaves good_renews2
    (then bad_color _ s14 s14 w14 bad_color_leaves good_bad_color
    (then bad_depth _ s14 s14 w15 bad_depth_leaves good_bad_depth
    (then bad_stage _ s14 s14 w16 bad_stage_leaves good_bad_stage
    (then bad_vertex _ s14 s14 w17 bad_vertex_leaves good_bad_vertex
    (then bad_define _ s14 s15 w18 refl good_bad_define
    (then bad_patch _ s15 s16 w19 refl good_bad_patch
    (then bad_repatch _ s16 s17 w20 refl good_bad_repatch
    (then bad_set _ s17 _ w21 refl good_bad_set
    (none _ _)))))))))))))))))))))))

-- calls that are each good meet the premises, on a target of 4 by 1
module _ (cs : List ℕ) (ds : List Float) (st : List ℕ) (f : ℕ → Texture) (ms : List (Turn GuestCall)) (all : All Good (moments M ms (state cs ds st f) (nobody M))) where
  good : (e : Then) → During (meaning drawing scissor_of) (InBox drawing scissor_of) (InWindow window) bad_target e ms (state cs ds st f) → Good e
  good e i = each Good (moments M ms (state cs ds st f) (nobody M)) all e i

  textures : TexturesApart (meaning drawing scissor_of) (InBox drawing scissor_of) (InWindow window) bad_target ms (state cs ds st f)
  textures a b i j ne n w u = go ((good b j).user n u)
    where
      go : (b.turn.who ≡ n) ⊎ (n ≡ 3) → ⊥
      go (inl o) = ne (((good a i).writer n w).0 ∙ sym o)
      go (inr z) = ((good a i).writer n w).1 z

  pub premises : GuestPremises drawing scissor_of window ms (state cs ds st f)
  premises = record { disjoint = disjoint; inside = λ e i. (good e i).box; textures = textures; bytes = λ e i b r. (good e i).own b r }

-- all premises, and so the claim
pub met : GuestPremises drawing scissor_of window calls start
met = premises start.colors start.depths start.store start.textures calls all_good

pub holds : GuestClaim drawing scissor_of window calls start
holds = demand_3 window calls start met

-- ---- the target that 1 refuses: no call on it is done

good_torn0 : Good (made 0 torn w0 clears0.call)
unfolding opened
good_torn0 = good_refused 0 torn w0 clears0.call refl (λ n k. absurd (false≢true k)) (λ n r. absurd r) (λ b r. absurd r)

good_torn2 : Good (made 2 torn (mark M clears0 torn w0) paints2.call)
unfolding opened
good_torn2 = good_refused 2 torn _ paints2.call refl (λ n k. absurd (false≢true k)) (λ n r. absurd r) (λ b r. absurd r)

good_torn1 : Good (made 1 torn (mark M paints2 torn (mark M clears0 torn w0)) spills1.call)
unfolding opened
good_torn1 = good_refused 1 torn _ spills1.call refl (λ n k. absurd (false≢true k)) (λ n r. absurd (false≢true r.0)) (λ b r. absurd (false≢true r.0.0))

torn_stays0 : next M clears0.call torn ≡ torn
unfolding opened
torn_stays0 = refl

torn_stays2 : next M paints2.call torn ≡ torn
unfolding opened
torn_stays2 = refl

torn_good : All Good (moments M on_torn torn (nobody M))
torn_good = then clears0 _ torn torn w0 torn_stays0 good_torn0 (then paints2 _ torn torn _ torn_stays2 good_torn2 (then spills1 _ torn _ _ refl good_torn1 (none _ _)))

pub holds_torn : GuestClaim drawing scissor_of window on_torn torn
holds_torn = demand_3 window on_torn torn (premises torn.colors torn.depths torn.store torn.textures on_torn torn_good)

pub torn_is_bad : bad_target 4 1 15 4 ≡ true
unfolding opened
torn_is_bad = refl

-- ---- what the claim says, part by part

-- the frame in the end, among all, by its lists
end_of : (p : ℕ) → pixel_of (run M calls start) p
    ≡ pixel_at (50 ∷ 60 ∷ 70 ∷ 80 ∷ 4 ∷ 3 ∷ 2 ∷ 1 ∷ 21 ∷ 22 ∷ 23 ∷ 24 ∷ 11 ∷ 12 ∷ 13 ∷ 14 ∷ []) (zero32 ∷ zero32 ∷ zero32 ∷ one32 ∷ []) p
end_of p = ap₂ (λ cs ds. pixel_at cs ds p) comes.colours comes.depths

pub claimed : Claimed
unfolding pixel_at
claimed = record {
  answers_0 = sym (holds.answers 0) ∙ comes.answers_0;
  answers_1 = sym (holds.answers 1) ∙ comes.answers_1;
  answers_2 = sym (holds.answers 2) ∙ comes.answers_2;
  bill_0 = sym (holds.bills 0) ∙ comes.bill_0;
  bill_1 = sym (holds.bills 1) ∙ comes.bill_1;
  bill_2 = sym (holds.bills 2) ∙ comes.bill_2;
  window_0 = sym (holds.windows 0 0 in_0) ∙ end_of 0;
  window_1 = sym (holds.windows 1 1 in_1) ∙ end_of 1;
  window_2 = sym (holds.windows 2 2 in_2) ∙ end_of 2;
  outside_3 = holds.outside 3 last_alone;
  whole = holds_torn.whole torn_is_bad;
}
