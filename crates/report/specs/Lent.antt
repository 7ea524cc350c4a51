-- The lists that a report is written from, as they are lent: where the names stand, the links, the sites, and all that is shown.
use Rattle.std.specs.Prelude.{List, ℕ, ◌≤◌, length}
use Rattle.model.specs.Limits.{SITES}
use Rattle.model.specs.declared.Pair.{Pair}
use Rattle.text_writers.specs.Wrote.{Room}
use Rattle.report.specs.Report.{Plan, link_line, site_line, cut_line}
use Rattle.report.specs.Shown.{name_by, shown_by, Named, AllNamed, Links, Owners, Paired, CanWrite}
use Rattle.report.specs.Span.{Span, range_line, span_text}
use Rattle.report.specs.SpanShown.{span_by, Ranges}
use Rattle.report.specs.declared.Names.{Names}
use Rattle.report.specs.declared.LinkLists.{LinkLists}
use Rattle.report.specs.declared.SiteLists.{SiteLists}
use Rattle.report.specs.declared.PlanLists.{PlanLists}
use Rattle.report.specs.declared.RangeLists.{RangeLists}
use Rattle.report.specs.declared.SpanLists.{SpanLists}

-- ---- names

-- the name of a site
abbrev pub name_in : Names → ℕ → List ℕ
name_in names = name_by names.sheet.now names.start.now names.end.now

-- its range is one of the sheet
abbrev pub IsNamed : Names → ℕ → Type 0
IsNamed names = Named names.sheet.now names.start.now names.end.now

-- so for the sites 1 .. n
abbrev pub AreNamed : Names → ℕ → Type 0
AreNamed names = AllNamed names.sheet.now names.start.now names.end.now

-- ---- lines

-- the line of link j
abbrev pub link_of : Names → LinkLists → ℕ → List ℕ
link_of names lists = link_line (name_in names) lists.one.now lists.two.now lists.capacity.now lists.shown.now

-- the lists are of one length, and their links between named sites
abbrev pub AreLinks : Names → LinkLists → Type 0
AreLinks names lists = Links names.sheet.now names.start.now names.end.now lists.one.now lists.two.now lists.capacity.now lists.shown.now

-- the line of site x and its owner
abbrev pub site_of : Names → SiteLists → ℕ → List ℕ
site_of names lists = site_line (name_in names) lists.owner.now

-- the owners are named
abbrev pub AreOwners : Names → SiteLists → Type 0
AreOwners names lists = Owners names.sheet.now names.start.now names.end.now lists.owner.now lists.many

-- the line of the terminal cut of site a, if it is an end
abbrev pub cut_of : Names → SiteLists → ℕ → List ℕ
cut_of names lists = cut_line (name_in names) lists.ends.now lists.size.now lists.count.now

-- there is a size and a count for each site
abbrev pub AreCuts : SiteLists → Type 0
AreCuts lists = (lists.many ≤ SITES) × (lists.many ≤ length lists.size.now) × (lists.many ≤ length lists.count.now)

-- the line of link j of a range sheet
abbrev pub range_of : Names → RangeLists → ℕ → List ℕ
range_of names lists = range_line (name_in names) lists.one.now lists.two.now lists.low.now lists.high.now lists.least.now lists.greatest.now

-- the lists are of one length, and their links between named sites
abbrev pub AreRanges : Names → RangeLists → Type 0
AreRanges names lists =
    Ranges names.sheet.now names.start.now names.end.now lists.one.now lists.two.now lists.low.now lists.high.now lists.least.now lists.greatest.now

-- a pair joins named sites
abbrev pub JoinsNamed : Names → Pair → Type 0
JoinsNamed names e = IsNamed names e.first × IsNamed names e.second

-- so do all of a list
abbrev pub AreJoined : Names → List Pair → Type 0
AreJoined names pairs = Paired names.sheet.now names.start.now names.end.now pairs (length pairs)

-- ---- reports

-- the plan that is shown
abbrev pub plan_in : PlanLists → Plan
plan_in lists =
    shown_by lists.word.now lists.before.now lists.names.sheet.now lists.names.start.now lists.names.end.now lists.sites.many lists.links.one.now
    lists.links.two.now lists.links.capacity.now lists.links.shown.now lists.sites.ends.now lists.sites.owner.now lists.sites.size.now
    lists.sites.count.now lists.pairs.now

-- what the writer of its report requires
abbrev pub CanShow : PlanLists → Type 0
CanShow lists = CanWrite lists.names.sheet.now lists.names.start.now lists.names.end.now (plan_in lists) lists.pairs.now

-- the span that is shown
abbrev pub span_in : SpanLists → Span
span_in lists =
    span_by lists.names.sheet.now lists.names.start.now lists.names.end.now lists.ranges.one.now lists.ranges.two.now lists.ranges.low.now
    lists.ranges.high.now lists.ranges.least.now lists.ranges.greatest.now lists.lower lists.upper

-- what the writer of its report requires
abbrev pub CanShowSpan : SpanLists → Type 0
CanShowSpan lists = AreRanges lists.names lists.ranges × Room 0 (span_text (span_in lists))
