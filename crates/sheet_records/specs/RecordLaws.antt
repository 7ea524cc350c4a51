-- Names and records that are the same, turned round and chained.
use Rattle.std.proofs.Common.{inl, inr, sym, ap, ◌∙◌, arith}
use Rattle.lists.specs.Numbers.{look}
use Rattle.model.specs.declared.Sizing.TheVariants.{Reserved}
use Rattle.text_records.specs.Records.{Record}
use Rattle.sheet_kinds.specs.LineKinds.{IsSite, IsLink}
use Rattle.sheet_kinds.specs.LineKindLaws.{site_parts, link_parts}

-- the letter of a site record is not that of a link record
pub a_site_is_no_link : (r : Record) → IsSite r → IsLink Reserved r → ⊥
a_site_is_no_link r s l = elim (site_parts r s).letter [
  | inl e ↦ omega (arith, ap (λ f. look f 0) (sym e ∙ (link_parts Reserved r l).letter))
  | inr e ↦ omega (arith, ap (λ f. look f 0) (sym e ∙ (link_parts Reserved r l).letter))
]
