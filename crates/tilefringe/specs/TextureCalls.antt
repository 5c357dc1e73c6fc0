-- What the calls on texture objects answer and leave, over a record's layout and the store: docs/INTERFACE.md, Texture record.
use Rattle.std.specs.Prelude.{cond, List, [], ℕ, eqb, length}
use Rattle.std.specs.Option.{option_map_or}
use Rattle.levels.specs.Levels.{new_texture}
use Rattle.texture.specs.Define.{Outcome, define_of}
use Rattle.texture.specs.Patch.{Patched, patch_of}
use Rattle.texture.specs.Parameters.{Setting, set_of}
use Rattle.layouts.specs.Records.{read_of, record_bytes, put_define, put_parameter}

-- an answer, a record's layout and the store; a call that is lent no store leaves none
pub record Lent : Type 0 where
  pub answer : ℕ
  pub layout : List ℕ
  pub store : List ℕ

abbrev pub lent : ℕ → List ℕ → List ℕ → Lent
lent n b s = record { answer = n; layout = b; store = s }

-- a record's layout after a call: b' where it is done
unfoldable pub written : ℕ → List ℕ → List ℕ → List ℕ
written n b b' = cond (eqb n 0) b' b

unfoldable pub new_call : List ℕ → Lent
new_call b = cond (eqb (length b) 244) (lent 0 (record_bytes new_texture) []) (lent 255 b [])

abbrev pub defined : List ℕ → ℕ → Outcome → Lent
defined b k o = lent o.answer (written o.answer b (put_define k o.texture b)) o.store

unfoldable pub define_call : List ℕ → List ℕ → ℕ → ℕ → ℕ → ℕ → List ℕ → Lent
define_call b s k w h place rgba = option_map_or (λ t. defined b k (define_of s t k w h place rgba)) (read_of b) (lent 255 b s)

abbrev pub patched : List ℕ → Patched → Lent
patched b o = lent o.answer b o.store

unfoldable pub patch_call : List ℕ → List ℕ → ℕ → ℕ → ℕ → ℕ → ℕ → List ℕ → Lent
patch_call b s k x y w h patch = option_map_or (λ t. patched b (patch_of s t k x y w h patch)) (read_of b) (lent 255 b s)

abbrev pub set : List ℕ → ℕ → ℕ → Setting → Lent
set b p v o = lent o.answer (written o.answer b (put_parameter p v b)) []

unfoldable pub set_call : List ℕ → ℕ → ℕ → Lent
set_call b p v = option_map_or (λ t. set b p v (set_of t p v)) (read_of b) (lent 255 b [])
