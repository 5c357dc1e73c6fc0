-- A draw's call from what its layouts were read as. Assumes nothing.
use Prim.Native.Nat.{ℕ, ◌*◌}
use mathlib.Core.Path.{◌≡◌, refl, sym, ap, ◌∙◌}
use mathlib.Core.Bool.{Bool, true, false, cond}
use mathlib.Core.List.{List, [], ◌∷◌}
use native.Mathlib.Omega.{arith}
use lib.Dec.{eqb}
use lib.ListN.{length, get_or}
use lib.Ieee.{Float}
use Rattle.std.proofs.Common.{Option, Some, None, Result, is_some, unwrap_or}
use Rattle.std.proofs.lemmas.List.{get_or_default}
use Rattle.answers.specs.declared.Refusal.{Refusal}
use Rattle.settings.specs.declared.PipelineState.{PipelineState}
use Rattle.settings.specs.declared.TextureStage.{TextureStage}
use Rattle.vertices.specs.declared.Vertex.{Vertex}
use Rattle.vertices.specs.Vertex.{new_vertex}
use Rattle.levels.specs.declared.Texture.{Texture}
use Rattle.levels.specs.Levels.{new_texture}
use Rattle.draw.specs.Draw.{draw_args, outcome, answer_of, draw_of}
use Rattle.draw.proofs.Unstaged.{unstaged_draw}
use Rattle.draw_layouts.specs.declared.Stages.{Stages}
use Rattle.draw_layouts.specs.Units.{named, unit_or, read_units}
use Rattle.draw_layouts.specs.Settings.{read_settings}
use Rattle.draw_layouts.specs.Stages.{stage_known, first_known, first_four, stages_known, used, read_stages}
use Rattle.draw_layouts.specs.Vertices.{read_vertices}
use Rattle.tilefringe.specs.DrawCalls.{called, call_number, called_of, args_of, all_known, units_of, draw_call}

-- no stages can be told
pub stages_unknown : (u : Option (List Texture)) (s : Option PipelineState) (v : Option (List Vertex)) → all_known u s None v ≡ false
stages_unknown (Some x) (Some y) v = refl
stages_unknown (Some x) None v = refl
stages_unknown None s v = refl

-- the units' records by the stages that are in use
pub units_told : (bu bt : List ℕ) {t : Stages} {l : List TextureStage} {o : Option (List Texture)}
    → read_stages bt ≡ Some t → l ≡ used t → o ≡ read_units l bu → units_of (read_stages bt) bu ≡ o
units_told bu bt es el eo = rw (es, ← el) (sym eo)

module _ (store : List ℕ) (w h : ℕ) (bu bs bt bv : List ℕ) (cs : List ℕ) (ds : List Float) where
  -- a layout holds nothing
  pub faulted : all_known (units_of (read_stages bt) bu) (read_settings bs) (read_stages bt) (read_vertices bv) ≡ false → called (255 * 4294967296) cs ds ≡ draw_call store w h bu bs bt bv cs ds
  unfolding draw_call
  faulted e = rw e

  -- all hold something
  pub drawn : {u : List Texture} {s : PipelineState} {t : Stages} {v : List Vertex}
      → units_of (read_stages bt) bu ≡ Some u → read_settings bs ≡ Some s → read_stages bt ≡ Some t → read_vertices bv ≡ Some v
      → (a : Result ℕ Refusal) (cs' : List ℕ) (ds' : List Float)
      → outcome (answer_of a) cs' ds' ≡ draw_of store w h (args_of (Some s) (Some t) (Some v)) u cs ds
      → called (call_number (Some a)) cs' ds' ≡ draw_call store w h bu bs bt bv cs ds
  unfolding draw_call
  drawn eu es et ev a cs' ds' e = rw (eu, es, et, ev) (ap called_of e)

-- three vertices, by the names that they are read under
pub three : (v : List Vertex) (s : PipelineState) (l : Stages) (d e f : Vertex) → length v ≡ 3
    → draw_args s l.first l.count (get_or v 0 d) (get_or v 1 e) (get_or v 2 f) ≡ args_of (Some s) (Some l) (Some v)
three v s l d e f h =
    let x : get_or v 0 d ≡ get_or v 0 new_vertex = get_or_default v 0 d new_vertex (omega (arith, h)) in
    let y : get_or v 1 e ≡ get_or v 1 new_vertex = get_or_default v 1 e new_vertex (omega (arith, h)) in
    let z : get_or v 2 f ≡ get_or v 2 new_vertex = get_or_default v 2 f new_vertex (omega (arith, h)) in
    rw (x, y, z)

-- ---- without a stage: no record and no texel is read

module _ (w h : ℕ) (bu bs bv : List ℕ) (cs : List ℕ) (ds : List Float) where
  -- the draw of what the layouts hold is the same over any store
  any_store : (store : List ℕ) (u : List Texture) (s : Option PipelineState) (v : Option (List Vertex))
      → draw_of [] w h (args_of s (read_stages []) v) u cs ds ≡ draw_of store w h (args_of s (read_stages []) v) u cs ds
  unfolding read_stages stages_known first_known stage_known
  any_store store u s v =
      sym (unstaged_draw w h _ _ _ _ cs ds [] (first_four []) u) ∙ unstaged_draw w h _ _ _ _ cs ds store (first_four []) u

  pub plain_call : (store bt : List ℕ) → length bt ≡ 0 → draw_call [] w h bu bs [] bv cs ds ≡ draw_call store w h bu bs bt bv cs ds
  unfolding draw_call
  plain_call store [] e =
      λ i. cond (all_known (units_of (read_stages []) bu) (read_settings bs) (read_stages []) (read_vertices bv))
      (called_of (any_store store (unwrap_or (units_of (read_stages []) bu) []) (read_settings bs) (read_vertices bv) i)) (called (255 * 4294967296) cs ds)
  plain_call store (x ∷ l) e = absurd (omega (arith, e))

  no_stages_read : read_stages [] ≡ Some (record { first = first_four []; count = 0 })
  unfolding read_stages stages_known first_known stage_known
  no_stages_read = refl

  -- no unit is named, so that no byte of a record is looked at
  four_defaults : List Texture
  four_defaults = new_texture ∷ new_texture ∷ new_texture ∷ new_texture ∷ []

  none_named : units_of (read_stages []) bu ≡ cond (eqb (length bu) 976) (Some four_defaults) None
  unfolding read_stages stages_known first_known stage_known used read_units unit_or named four_defaults
  none_named = refl

  pub plain_faulted : cond (eqb (length bu) 976) (cond (is_some (read_settings bs)) (is_some (read_vertices bv)) false) false ≡ false
      → called (255 * 4294967296) cs ds ≡ draw_call [] w h bu bs [] bv cs ds
  plain_faulted e = faulted [] w h bu bs [] bv cs ds (rw (none_named, no_stages_read) (go (eqb (length bu) 976) e))
    where
      rest : Bool
      rest = cond (is_some (read_settings bs)) (is_some (read_vertices bv)) false

      go : (y : Bool) → cond y rest false ≡ false → cond (is_some (cond {A = Option (List Texture)} y (Some four_defaults) None)) rest false ≡ false
      go true e = e
      go false e = e

  pub plain_drawn : {s : PipelineState} {v : List Vertex}
      → eqb (length bu) 976 ≡ true → read_settings bs ≡ Some s → read_vertices bv ≡ Some v
      → (a : Result ℕ Refusal) (cs' : List ℕ) (ds' : List Float)
      → outcome (answer_of a) cs' ds' ≡ draw_of [] w h (draw_args s [] 0 (get_or v 0 new_vertex) (get_or v 1 new_vertex) (get_or v 2 new_vertex)) [] cs ds
      → called (call_number (Some a)) cs' ds' ≡ draw_call [] w h bu bs [] bv cs ds
  plain_drawn k es ev a cs' ds' e =
      drawn [] w h bu bs [] bv cs ds (rw k at none_named) es no_stages_read ev a cs' ds'
      (e ∙ unstaged_draw w h _ _ _ _ cs ds [] (first_four []) four_defaults)
