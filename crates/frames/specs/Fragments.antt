-- A draw past its checks: fragments, each at one pixel, in order. The law of a fragment is what makes the draw keep the laws of a call.
use Rattle.std.specs.Prelude.{◌≡◌, ◌≢◌, Bool, true, false, List, [], ◌∷◌, ◌++◌, ℕ, zero, suc, ◌+◌, ◌-◌, ◌*◌, ◌≤◌, ◌<◌, length, get_or, Float}
use Rattle.isolation.specs.Machine.{Act, In}
use Rattle.frames.specs.State.{Pixel, pixel_at, State, Place, sizes, pixel, byte, texture, Answer, drew}

-- The steps of the items, one after the other.
unfoldable pub paint : {Item Canvas : Type 0} → (Item → Canvas → Canvas) → List Item → Canvas → Canvas
paint step [] c = c
paint step (i ∷ is) c = paint step is (step i c)

-- The store bytes that they take on the way, each on the canvas that it meets.
unfoldable pub taken : {Item Canvas : Type 0} → (Item → Canvas → Canvas) → (Item → Canvas → List ℕ) → List Item → Canvas → List ℕ
taken step took [] c = []
taken step took (i ∷ is) c = took i c ++ taken step took is (step i c)

-- the items of the numbers k, k + 1, .., k + n - 1
unfoldable pub spread : {Item : Type 0} → (ℕ → List Item) → ℕ → ℕ → List Item
spread f k zero = []
spread f k (suc n) = f k ++ spread f (k + 1) n

-- the items of the columns x0 to x1 and the rows y0 to y1, row by row
unfoldable pub grid : {Item : Type 0} → (ℕ → ℕ → Item) → ℕ → ℕ → ℕ → ℕ → List Item
grid f x0 x1 y0 y1 = spread (λ y. spread (λ x. f x y ∷ []) x0 (x1 - x0)) y0 (y1 - y0)

-- What a definition of a draw works on: the colours and depths so far, and how many pixels were written.
pub record Canvas (C : Type 0) : Type 0 where
  pub colors : C → List ℕ
  pub depths : C → List Float
  pub count : C → ℕ
  pub begin : List ℕ → List Float → C
  pub begin_colors : (cs : List ℕ) (ds : List Float) → colors (begin cs ds) ≡ cs
  pub begin_depths : (cs : List ℕ) (ds : List Float) → depths (begin cs ds) ≡ ds
  pub begin_count : (cs : List ℕ) (ds : List Float) → count (begin cs ds) ≡ 0

-- A draw's work, once a target's sides and the textures' records are known: its fragments in order, the pixel of each, what each
-- does on a store and a canvas, and the store bytes that it takes there.
pub record Work (Item C : Type 0) : Type 0 where
  pub items : List Item
  pub at : Item → ℕ
  pub step : List ℕ → Item → C → C
  pub took : List ℕ → Item → C → List ℕ

module _ {C : Type 0} (canvas : Canvas C) where
  abbrev pub shown : C → ℕ → Pixel
  shown c p = pixel_at (canvas.colors c) (canvas.depths c) p

  -- pixel p has its bytes and its depth on the canvas
  abbrev pub Fits : C → ℕ → Type 0
  Fits c p = (p * 4 + 4 ≤ length (canvas.colors c)) × (p < length (canvas.depths c))

  abbrev pub SameLengths : C → C → Type 0
  SameLengths c k = (length (canvas.colors c) ≡ length (canvas.colors k)) × (length (canvas.depths c) ≡ length (canvas.depths k))

  -- THE LAW OF A FRAGMENT
  pub record FragLocal {Item : Type 0} (w : Work Item C) : Type 0 where
    -- it keeps the lengths
    pub lengths : (st : List ℕ) (i : Item) (c : C) → SameLengths (w.step st i c) c
    -- it changes its own pixel at most
    pub other : (st : List ℕ) (i : Item) (c : C) (q : ℕ) → Fits c (w.at i) → q ≢ w.at i → shown (w.step st i c) q ≡ shown c q
    -- what becomes of its pixel and of the count hangs on that pixel, the count, the store's length and the store bytes that it takes
    pub here : (st su : List ℕ) (i : Item) (c k : C) → Fits c (w.at i) → SameLengths c k → shown c (w.at i) ≡ shown k (w.at i)
        → canvas.count c ≡ canvas.count k → length st ≡ length su → ((b : ℕ) → In b (w.took st i c) → get_or st b 0 ≡ get_or su b 0)
        → (shown (w.step st i c) (w.at i) ≡ shown (w.step su i k) (w.at i)) × (canvas.count (w.step st i c) ≡ canvas.count (w.step su i k))

  -- names: the textures whose records the work hangs on. within: whether a pixel of a target of such sides is in its scissor box.
  module _ {Texture Item : Type 0} (names : List ℕ) (within : ℕ → ℕ → ℕ → Bool) (work : ℕ → ℕ → (ℕ → Texture) → Work Item C) where
    abbrev pub work_on : State Texture → Work Item C
    work_on s = work s.width s.height s.textures

    abbrev pub painted : State Texture → C
    painted s = paint ((work_on s).step s.store) (work_on s).items (canvas.begin s.colors s.depths)

    -- the bytes of all the texels that the draw takes
    abbrev pub taken_by : State Texture → List ℕ
    taken_by s = taken ((work_on s).step s.store) ((work_on s).took s.store) (work_on s).items (canvas.begin s.colors s.depths)

    -- 01: it reads the records of its textures, the bytes of its texels, and the pixels of its box
    abbrev pub PaintReads : State Texture → Place → Type 0
    PaintReads s sizes = Unit {0}
    PaintReads s (pixel p) = within s.width s.height p ≡ true
    PaintReads s (byte b) = In b (taken_by s)
    PaintReads s (texture n) = In n names

    -- 01: it writes pixels of its box
    abbrev pub paint_writes : State Texture → Place → Bool
    paint_writes s sizes = false
    paint_writes s (pixel p) = within s.width s.height p
    paint_writes s (byte b) = false
    paint_writes s (texture n) = false

    abbrev pub paints : Act (State Texture) Answer Place
    paints = record {
      does = λ s. (
        drew (canvas.count (painted s)),
        record {
          width = s.width;
          height = s.height;
          colors = canvas.colors (painted s);
          depths = canvas.depths (painted s);
          store = s.store;
          textures = s.textures;
        },
      );
      Reads = PaintReads;
      writes = paint_writes;
    }
