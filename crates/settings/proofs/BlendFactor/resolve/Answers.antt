use Rattle.settings.proofs.BlendFactor.resolve.Goals as goal

pub returns-in-Zero : goal.returns-in-Zero
returns-in-Zero c = rw c.in-Zero.is c.splat.ensures

pub returns-in-One : goal.returns-in-One
returns-in-One c = rw c.in-One.is c.splat-in-One.ensures

pub returns-in-OneMinusSrcColor : goal.returns-in-OneMinusSrcColor
returns-in-OneMinusSrcColor c = rw c.in-OneMinusSrcColor.is c.one_minus.ensures

pub returns-in-SrcAlpha : goal.returns-in-SrcAlpha
returns-in-SrcAlpha c = rw c.in-SrcAlpha.is c.splat-in-SrcAlpha.ensures

pub returns-in-OneMinusSrcAlpha : goal.returns-in-OneMinusSrcAlpha
returns-in-OneMinusSrcAlpha c = rw c.in-OneMinusSrcAlpha.is c.splat-in-OneMinusSrcAlpha.ensures

pub returns-in-DstAlpha : goal.returns-in-DstAlpha
returns-in-DstAlpha c = rw c.in-DstAlpha.is c.splat-in-DstAlpha.ensures

pub returns-in-OneMinusDstAlpha : goal.returns-in-OneMinusDstAlpha
returns-in-OneMinusDstAlpha c = rw c.in-OneMinusDstAlpha.is c.splat-in-OneMinusDstAlpha.ensures

pub returns-in-OneMinusDstColor : goal.returns-in-OneMinusDstColor
returns-in-OneMinusDstColor c = rw c.in-OneMinusDstColor.is c.one_minus-in-OneMinusDstColor.ensures

pub returns-in-SrcAlphaSaturate : goal.returns-in-SrcAlphaSaturate
returns-in-SrcAlphaSaturate c = rw c.in-SrcAlphaSaturate.is c.saturated.ensures
