use Rattle.std.proofs.Common.{◌≡◌, refl, ap, ◌∙◌, length}
use Rattle.std.proofs.Math.Seq.{paste}
use Rattle.layouts.specs.Records.{put_word, put_parameter}
use Rattle.layouts.proofs.put_parameter.Goals as goal
use Rattle.layouts.proofs.put_parameter.Goals.{in-10241, in-10240, in-10242, in-10243}

pub returns : goal.returns
unfolding put_parameter
returns c =
    let b = c.args.b.now in
    let v = c.args.value in
    let put : c.copy_in.new.store ≡ put_word c.match-pname.at v b = c.copy_in.ensures ∙ ap (λ l. paste b c.match-pname.at l (length l)) c.to_le_bytes.ensures in
    elim c.match-pname.branch [
      | in-10241 w ↦ put ∙ ap (λ i. put_word i v b) w.at-is ∙ rw w.in-10241.is refl
      | in-10240 w ↦ put ∙ ap (λ i. put_word i v b) w.at-is ∙ rw w.in-10240.is refl
      | in-10242 w ↦ put ∙ ap (λ i. put_word i v b) w.at-is ∙ rw w.in-10242.is refl
      | in-10243 w ↦ put ∙ ap (λ i. put_word i v b) w.at-is ∙ rw w.in-10243.is refl
    ]
