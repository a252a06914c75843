mod DueLaws
