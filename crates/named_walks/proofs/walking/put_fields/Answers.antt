use Rattle.named_walks.proofs.Texts.{fields_put}
use Rattle.named_walks.proofs.walking.put_fields.Goals as goal

pub returns : goal.returns
returns c =
    fields_put c.args.state.now _ _ _ _ _ _ _ _ _ c.in_ok-put_field.ensures c.in_ok-put_field-2.ensures c.in_ok-put_field-3.ensures c.in_ok-put_field-4.ensures c.in_ok-put_field-5.ensures c.in_ok-put_field-6.ensures
    c.in_ok-put_field-7.ensures c.in_ok-put_field-8.ensures
