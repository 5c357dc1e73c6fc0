use borrow.Author.Rules.{rules}
use lib.Ieee.{nan}
use Rattle.lists.specs.Lists.{tab}
use Rattle.channels.specs.Channel.{byte_of}
use Rattle.plain_pixels.specs.Solid.{solid_color}
use Rattle.plain_pixels.proofs.Bytes.{tab_map}
use Rattle.plain_pixels.proofs.solid.solid_color.Goals as goal

pub returns : goal.returns
unfolding solid_color tab
returns c = tab_map _ _ byte_of (λ x p q y k. search rules) 4 _ _ nan c.map.ensures.items
