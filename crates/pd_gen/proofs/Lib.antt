mod LineLemmas
mod TextLemmas
mod PlanLemmas
mod SummingLemmas
