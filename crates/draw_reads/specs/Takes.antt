-- Which store bytes a run of fragments takes: document 01, Demand 3, the bytes of the texels that are taken at every pixel that gets as
-- far as its stages, dropped later or not.
use Rattle.std.specs.Prelude.{ℕ, ◌<◌, ◌≡◌, true, List, ◌∷◌, ◌++◌, Float}
use Rattle.gradients.specs.declared.PerCorner.{PerCorner}
use Rattle.sampler.specs.Addresses.{addresses_of}
use Rattle.coverage.specs.Coverage.{weights_of, covered_by}
use Rattle.stages.specs.Stages.{stage_at, texture_at, coordinates_of}
use Rattle.isolation.specs.Machine.{In}
use Rattle.frames.specs.State.{Pixel, pixel_at}
use Rattle.frames.specs.Fragments.{paint}
use Rattle.frames.specs.Gather.{Drawn}
use Rattle.pixels.specs.Way.{Drawing, reaches, rec_of}
use Rattle.draw_reads.specs.Items.{Item, pixel_no, items_work}

abbrev pub item_weights : Item → PerCorner Float
item_weights i = weights_of i.tri.raster i.px i.py

module _ (st : List ℕ) (d : Drawing) (width : ℕ) where
  -- the pixel that an item finds, after the items before it
  abbrev pub met : List Item → Item → Drawn → Pixel
  met before i c =
      let k = paint ((items_work d width before).step st) before c in
      pixel_at k.colors k.depths (pixel_no width i)

  -- an item finds its pixel so that it gets as far as its stages, and one of them takes byte b
  pub record TakesAt (i : Item) (old : Pixel) (b : ℕ) : Type 0 where
    pub covered : covered_by (item_weights i) ≡ true
    pub reached : reaches d.state i.tri (item_weights i) old.depth ≡ true
    pub stage : ℕ
    pub used : stage < d.count
    pub taken : In b (addresses_of (texture_at d.textures stage) (coordinates_of i.tri (item_weights i) (rec_of i.tri (item_weights i)) (stage_at d.stages stage).unit))

  -- byte b is taken by one of the items, on the pixel that it finds
  pub record Takes (items : List Item) (c : Drawn) (b : ℕ) : Type 0 where
    pub before : List Item
    pub item : Item
    pub after : List Item
    pub parts : items ≡ before ++ (item ∷ after)
    pub takes : TakesAt item (met before item c) b
