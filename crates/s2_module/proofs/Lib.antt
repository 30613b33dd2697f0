mod ModuleViews
mod TurnRuns
